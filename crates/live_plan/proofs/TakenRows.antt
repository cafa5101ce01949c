-- The rows that were let in, as records; and what letting one in says of it.
use Rattle.std.proofs.Common.{◌≡◌, ◌∙◌, refl, sym, ap, subst, ℕ, suc, ◌+◌, ◌<◌, ◌≤◌, ◌==◌, nat_le, nat_lt, not, Bool, true, false, ◌&&◌, ◌||◌, if◌then◌else◌, List, [], ◌∷◌, ◌++◌, length, reverse, find, Option, Some, None, is_some, arith}
use Rattle.std.specs.List.{list_any}
use Rattle.std.proofs.lemmas.Bool.Decides.{nat_tests}
use Rattle.std.proofs.lemmas.List.{length-reverse, reverse-append, take_all}
use Rattle.std.proofs.lemmas.List.Folds.{list_any-append}
use Rattle.bitmap_font.specs.Font.{FontValue}
use Rattle.cue_records.specs.CellFaults.{is_text_row, tick_fault, value_at}
use Rattle.cue_records.specs.Cells.{cell_at}
use Rattle.cue_list.specs.Past.{ScriptPast, looking_back}
use Rattle.cue_records.specs.Records.{Record, is, kind_of, record_of, records_from}
use Rattle.cue_list.specs.RowFaults.{fault_of, is_misplaced}
use Rattle.cue_records.specs.Rows.{Row}
use Rattle.cue_list.specs.ScriptRows.{Lists}
use Rattle.cue_list.specs.TakenRows.{IsScriptOf}
use Rattle.cue_list.specs.TickRows.{is_not_above, is_tick_row, tick_row_fault}
use Rattle.cue_records.specs.declared.fault.ScriptKind.TheVariants as faults
use Rattle.cue_records.specs.declared.row_kind.RowKind.{RowKind}
use Rattle.cue_records.specs.declared.row_kind.RowKind.TheVariants as kinds
use Rattle.cue_list.specs.declared.script.Script.{Script}
use Rattle.cue_list.proofs.FactLaws.{IsValidRow-from}
use Rattle.cue_records.proofs.TestLaws.{passed, not-wrong}
use Rattle.live_plan.specs.LetIn.{LetIn}
use Rattle.live_plan.specs.LiveRows.{Inserter, IsLetIn, RowOrTick, row, tick, early_behind, early_tick, has_epoch, is_within, last_tick, nearest_in, next_record, records_in, rows_in}
use Rattle.live_plan.specs.declared.limits.TheConstants.{AHEAD}

-- ---- records

pub records_more : (number : ℕ) (rows : List Row) (cells : Row)
    → records_from number (rows ++ cells ∷ [])
    ≡ records_from number rows ++ record_of (length rows + number) cells ∷ []
records_more number [] cells = ap (λ (n : ℕ). record_of n cells ∷ []) (omega arith)
records_more number (first ∷ rows) cells =
    let next : length rows + (number + 1) ≡ suc (length rows) + number = omega arith in
    ap (λ (rest : List Record). record_of number first ∷ rest)
    (records_more (number + 1) rows cells
    ∙ ap (λ (n : ℕ). records_from (number + 1) rows ++ record_of n cells ∷ []) next)

-- one row more
pub nearest_more : (past : List RowOrTick) (cells : Row)
    → nearest_in (row cells ∷ past) ≡ next_record past cells ∷ nearest_in past
nearest_more past cells =
    ap reverse (records_more 1 (rows_in past) cells)
    ∙ reverse-append (records_in past) (next_record past cells ∷ [])

length-records : (number : ℕ) (rows : List Row) → length (records_from number rows) ≡ length rows
length-records number [] = refl
length-records number (cells ∷ rows) = ap suc (length-records (number + 1) rows)

pub length-nearest : (past : List RowOrTick) → length (nearest_in past) ≡ length (rows_in past)
length-nearest past = length-reverse (records_in past) ∙ length-records 1 (rows_in past)

-- the script of rows is that of its records, the nearest first
pub listed : (font : FontValue) (past : List RowOrTick) (script : Script) → IsScriptOf font (records_in past) script
    → Lists font (nearest_in past) script.origin script.width script.height script.refresh script.epochs
    script.pictures
listed font past script is =
    let records = records_in past in
    subst (λ (rows : List Record). Lists font rows script.origin script.width script.height script.refresh
    script.epochs script.pictures) (ap reverse (take_all (length records) records (omega arith))) is.lists

-- an epoch's row stays among the rows
pub still_epoch : (past : List RowOrTick) (taken : RowOrTick) → has_epoch (records_in past) ≡ true
    → has_epoch (records_in (taken ∷ past)) ≡ true
still_epoch past (tick time) some = some
still_epoch past (row cells) some =
    ap (list_any (is kinds.Epoch)) (records_more 1 (rows_in past) cells)
    ∙ list_any-append (is kinds.Epoch) (records_in past) (next_record past cells ∷ [])
    ∙ ap (λ (b : Bool). b || list_any (is kinds.Epoch) (next_record past cells ∷ [])) some

-- ---- rows and ticks that were let in

-- a row that was let in: it is no tick row
pub record IsRowIn (inserter : Inserter) (past : List RowOrTick) (cells : Row) : Type 0 where
  pub plain : is_tick_row cells ≡ false
  pub let_in : IsLetIn inserter past cells

-- a tick that was let in: that of a tick row
pub record IsTickIn (inserter : Inserter) (past : List RowOrTick) (time : ℕ) : Type 0 where
  pub cells : Row
  pub is_tick : is_tick_row cells ≡ true
  pub time_is : value_at cells 1 ≡ time
  pub let_in : IsLetIn inserter past cells

row_of : (cells other : Row) (b : Bool) → is_tick_row other ≡ b
    → row cells ≡ (if b then tick (value_at other 1) else row other) → (is_tick_row other ≡ false) × (other ≡ cells)
row_of cells other true is same = absurd (let never : row cells ≡ tick (value_at other 1) = same in cc)
row_of cells other false is same = (is, let equal : row cells ≡ row other = same in cc)

tick_of : (time : ℕ) (other : Row) (b : Bool) → is_tick_row other ≡ b
    → tick time ≡ (if b then tick (value_at other 1) else row other)
    → (is_tick_row other ≡ true) × (value_at other 1 ≡ time)
tick_of time other true is same = (is, let equal : tick time ≡ tick (value_at other 1) = same in cc)
tick_of time other false is same = absurd (let never : tick time ≡ row other = same in cc)

pub row_let_in : (inserter : Inserter) (past : List RowOrTick) (cells : Row) → LetIn inserter (row cells ∷ past)
    → IsRowIn inserter past cells
row_let_in inserter past cells ((other, same, is), before) =
    let parts = row_of cells other (is_tick_row other) refl same in record {
      plain = subst (λ (one : Row). is_tick_row one ≡ false) parts.1 parts.0;
      let_in = subst (IsLetIn inserter past) parts.1 is;
    }

pub tick_let_in : (inserter : Inserter) (past : List RowOrTick) (time : ℕ) → LetIn inserter (tick time ∷ past)
    → IsTickIn inserter past time
tick_let_in inserter past time ((other, same, is), before) =
    let parts = tick_of time other (is_tick_row other) refl same in
    record { cells = other; is_tick = parts.0; time_is = parts.1; let_in = is }

-- a row that is let in passes the tests of a record
pub row_right : (inserter : Inserter) (past : List RowOrTick) (cells : Row) → IsRowIn inserter past cells
    → fault_of inserter.font (nearest_in past) (next_record past cells) ≡ None
row_right inserter past cells is =
    let known = looking_back inserter.font (nearest_in past) in
    sym (ap (λ (b : Bool). if b then tick_row_fault known (last_tick past) cells
    else fault_of inserter.font (nearest_in past) (next_record past cells)) is.plain)
    ∙ is.let_in.valid

-- a tick that passes its tests lies above the last one
pub tick_above : (known : ScriptPast) (last : Option ℕ) (cells : Row) → tick_row_fault known last cells ≡ None
    → is_not_above last (value_at cells 1) ≡ false
tick_above known last cells tests =
    let text = not-wrong (not (is_text_row cells)) faults.NotUtf8 _ tests in
    let count = not-wrong (not (length cells == 2)) faults.Count _ text.1 in
    let begun = not-wrong (known.rows == 0) faults.Order _ count.1 in
    let number = passed (tick_fault known.origin (cell_at cells 1)) _ begun.1 in
    (not-wrong (is_not_above last (value_at cells 1)) faults.Order _ number.1).0

-- and so does one that is let in
pub ticks_rise : (inserter : Inserter) (past : List RowOrTick) (time : ℕ) → IsTickIn inserter past time
    → is_not_above (last_tick past) time ≡ false
ticks_rise inserter past time is =
    let font = inserter.font in
    let cells = is.cells in
    let known = looking_back font (nearest_in past) in
    let tests : tick_row_fault known (last_tick past) cells ≡ None =
    sym (ap (λ (b : Bool). if b then tick_row_fault known (last_tick past) cells
    else fault_of font (nearest_in past) (next_record past cells)) is.is_tick)
    ∙ is.let_in.valid in
    ap (is_not_above (last_tick past)) (sym is.time_is) ∙ tick_above known (last_tick past) cells tests

-- ---- the horizon

not_both : (b : Bool) (horizon : ℕ) → (if not false && b then Some horizon else None) ≡ None → b ≡ false
not_both true horizon none = absurd (let never : Some horizon ≡ None = none in cc)
not_both false horizon none = refl

outside : (horizon time : ℕ) → nat_le time horizon ≡ false → horizon < time
outside horizon time test = grind (arith, nat_tests)

-- a row that is let in has a part in nothing up to the horizon
pub row_late : (inserter : Inserter) (past : List RowOrTick) (cells : Row) (time first : ℕ)
    → IsRowIn inserter past cells → last_tick past ≡ Some time
    → early_tick inserter.font past cells ≡ Some first → time + AHEAD < first
row_late inserter past cells time first is last there =
    let horizon = time + AHEAD in
    let early = early_tick inserter.font past cells in
    let late : early_behind inserter.font past cells (Some time) ≡ None =
    sym (ap (early_behind inserter.font past cells) last) ∙ is.let_in.late in
    let plain : (if not false && is_within early horizon then Some horizon else None) ≡ None =
    sym (ap (λ (b : Bool). if not b && is_within early horizon then Some horizon else None) is.plain) ∙ late in
    let within : is_within (Some first) horizon ≡ false =
    sym (ap (λ (tick : Option ℕ). is_within tick horizon) there)
    ∙ not_both (is_within early horizon) horizon plain in
    outside horizon first within

-- ---- a script with an epoch has its first three records

-- an epoch's record stands behind three others
behind_three : (rows : ℕ) → nat_lt rows 3 ≡ false → 3 ≤ rows
behind_three rows test = grind (arith, nat_tests)

length-append-one : (rows : List Row) (cells : Row) → length (rows ++ cells ∷ []) ≡ length rows + 1
length-append-one [] cells = refl
length-append-one (first ∷ rows) cells = omega (arith, length-append-one rows cells)

-- where an epoch's row was let in, three rows were let in before it
pub late_epoch : (inserter : Inserter) (past : List RowOrTick) → LetIn inserter past
    → is_some (find (is kinds.Epoch) (nearest_in past)) ≡ true → 4 ≤ length (rows_in past)
late_epoch inserter [] let_in some = absurd (let never : false ≡ true = some in cc)
late_epoch inserter (tick time ∷ past) let_in some = late_epoch inserter past let_in.1 some
late_epoch inserter (row cells ∷ past) let_in some =
    let font = inserter.font in
    let kind = kind_of (cell_at cells 0) in
    let number = length (rows_in past) + 1 in
    let earlier = nearest_in past in
    let is_in = row_let_in inserter past cells let_in in
    let placed = (IsValidRow-from font (looking_back font earlier) kind number cells
    (row_right inserter past cells is_in)).placed in
    let there : is_some (find (is kinds.Epoch) (next_record past cells ∷ earlier)) ≡ true =
    sym (ap (λ (rows : List Record). is_some (find (is kinds.Epoch) rows)) (nearest_more past cells)) ∙ some in
    let long = length-append-one (rows_in past) cells in
    at kind number cells past (length-nearest past) long placed there (late_epoch inserter past let_in.1)
  where
    at : (kind : RowKind) (number : ℕ) (cells : Row) (past : List RowOrTick)
        → length (nearest_in past) ≡ length (rows_in past)
        → length (rows_in past ++ cells ∷ []) ≡ length (rows_in past) + 1
        → is_misplaced (looking_back inserter.font (nearest_in past)) kind ≡ false
        → is_some (find (is kinds.Epoch) (record { number = number; kind = kind; cells = cells } ∷ nearest_in past))
        ≡ true
        → (is_some (find (is kinds.Epoch) (nearest_in past)) ≡ true → 4 ≤ length (rows_in past))
        → 4 ≤ length (rows_in past ++ cells ∷ [])
    at kinds.Epoch number cells past count long placed there before =
        let low = behind_three (length (nearest_in past)) placed in omega (arith, low, count, long)
    at kinds.Origin number cells past count long placed there before = omega (arith, before there, long)
    at kinds.Display number cells past count long placed there before = omega (arith, before there, long)
    at kinds.Refresh number cells past count long placed there before = omega (arith, before there, long)
    at kinds.Region number cells past count long placed there before = omega (arith, before there, long)
    at kinds.Colour number cells past count long placed there before = omega (arith, before there, long)
    at kinds.Picture number cells past count long placed there before = omega (arith, before there, long)
    at kinds.Place number cells past count long placed there before = omega (arith, before there, long)
    at kinds.Cue number cells past count long placed there before = omega (arith, before there, long)
    at kinds.Other number cells past count long placed there before = omega (arith, before there, long)
