-- What is due for a tick stays the front of every later batch.
use Rattle.std.proofs.Common.{◌≡◌, ◌∙◌, ◌⊎◌, inl, inr, refl, sym, ap, subst, ℕ, zero, suc, ◌+◌, ◌-◌, ◌*◌, ◌/◌, ◌<◌, ◌≤◌, ◌==◌, nat_lt, nat_le, not, Bool, true, false, cond, List, [], ◌∷◌, ◌++◌, length, take, find, Option, Some, None, is_some, option_map, arith, append_assoc}
use Rattle.std.proofs.Math.Nat.{div-mul-le_self, div-zero, eq-zero-or-pos, le-div_iff_mul-le}
use Rattle.std.proofs.lemmas.Bool.Decides.{nat_tests}
use Rattle.std.proofs.lemmas.List.{length-take, take_all}
use Rattle.sub_base.specs.Pace.{pace_of}
use Rattle.sub_base.specs.Profile.{profile_of}
use Rattle.cue_records.specs.Cells.{cell_at}
use Rattle.cue_list.specs.Past.{epoch_of, last_epoch, looking_back}
use Rattle.cue_records.specs.Records.{Record, is, kind_of}
use Rattle.cue_list.specs.RowFaults.{is_misplaced}
use Rattle.cue_records.specs.Rows.{Row}
use Rattle.cue_list.specs.TickRows.{first_tick, is_not_above}
use Rattle.cue_list.specs.declared.epoch.Epoch.{Epoch}
use Rattle.cue_records.specs.declared.row_kind.RowKind.{RowKind}
use Rattle.cue_records.specs.declared.row_kind.RowKind.TheVariants as kinds
use Rattle.cue_list.specs.declared.script.Script.{Script}
use Rattle.cue_list.proofs.FactLaws.{IsValidRow-from}
use Rattle.grown_script_laws.specs.Growth.{Grows}
use Rattle.shown_stream.specs.Compiled.{IsCompiledTo}
use Rattle.live_plan.specs.LetIn.{IsScriptBehind, LetIn}
use Rattle.live_plan.specs.LiveRows.{Inserter, IsBatchOf, RowOrTick, row, tick, due_front, has_epoch, last_tick, nearest_in, next_record, records_in, rows_in, slots_by, compiling_by}
use Rattle.live_plan.specs.declared.limits.TheConstants.{AHEAD}
use Rattle.live_plan.proofs.DuePackets.{due_goes_on}
use Rattle.live_plan.proofs.GrownScripts.{IsHead, IsLate, ListsScript, same_script_grows, script_grows, start_of}
use Rattle.live_plan.proofs.TakenRows.{late_epoch, length-nearest, listed, nearest_more, row_late, row_let_in, row_right, still_epoch, tick_let_in, ticks_rise}

-- ---- a row that is let in

-- the first tick that a row has a part in, by its kind
same_start : (past : List RowOrTick) (inserter : Inserter) (kind : RowKind) (cells : Row)
    → start_of kind cells (last_epoch inserter.font (nearest_in past))
    ≡ first_tick (looking_back inserter.font (nearest_in past)) kind cells
same_start past inserter kinds.Origin cells = refl
same_start past inserter kinds.Display cells = refl
same_start past inserter kinds.Refresh cells = refl
same_start past inserter kinds.Epoch cells = refl
same_start past inserter kinds.Region cells = refl
same_start past inserter kinds.Colour cells = refl
same_start past inserter kinds.Picture cells = refl
same_start past inserter kinds.Place cells = refl
same_start past inserter kinds.Cue cells = refl
same_start past inserter kinds.Other cells = refl

-- a head does not stand behind four records
misplaced : (place rows : ℕ) → place ≤ 2 → 4 ≤ rows → not (rows == place) ≡ false → ⊥
misplaced place rows low many test =
    let is : rows ≡ place = grind (arith, nat_tests) in omega (arith, low, many, is)

is_no_head : (inserter : Inserter) (past : List RowOrTick) (kind : RowKind)
    → 4 ≤ length (nearest_in past) → is_misplaced (looking_back inserter.font (nearest_in past)) kind ≡ false
    → IsHead kind → ⊥
is_no_head inserter past kinds.Origin many placed is =
    misplaced 0 (length (nearest_in past)) (omega arith) many placed
is_no_head inserter past kinds.Display many placed is =
    misplaced 1 (length (nearest_in past)) (omega arith) many placed
is_no_head inserter past kinds.Refresh many placed is =
    misplaced 2 (length (nearest_in past)) (omega arith) many placed
is_no_head inserter past kinds.Epoch many placed is = is
is_no_head inserter past kinds.Region many placed is = is
is_no_head inserter past kinds.Colour many placed is = is
is_no_head inserter past kinds.Picture many placed is = is
is_no_head inserter past kinds.Place many placed is = is
is_no_head inserter past kinds.Cue many placed is = is
is_no_head inserter past kinds.Other many placed is = is

some_found : (found : Option Record) (f : Record → Epoch) → is_some (option_map f found) ≡ true → is_some found ≡ true
some_found None f some = some
some_found (Some one) f some = refl

-- a script of rows that were let in, and that with one row more: it goes on above the horizon
pub rows_grow : (inserter : Inserter) (past : List RowOrTick) (cells : Row) (time : ℕ) (old new : Script)
    → last_tick past ≡ Some time → LetIn inserter (row cells ∷ past) → IsScriptBehind inserter past old
    → IsScriptBehind inserter (row cells ∷ past) new → Grows (time + AHEAD) old new
rows_grow inserter past cells time old new last let_in was now =
    let font = inserter.font in
    let kind = kind_of (cell_at cells 0) in
    let earlier = nearest_in past in
    let lists = listed font past old was.valid in
    let is_in = row_let_in inserter past cells let_in in
    let begun = some_found (find (is kinds.Epoch) earlier) (epoch_of font earlier) lists.some_epoch in
    let many : 4 ≤ length earlier =
    omega (arith, late_epoch inserter past let_in.1 begun, length-nearest past) in
    let placed = (IsValidRow-from font (looking_back font earlier) kind (length (rows_in past) + 1) cells
    (row_right inserter past cells is_in)).placed in
    let late : IsLate (time + AHEAD) (start_of kind cells (last_epoch font earlier)) =
    λ first there. row_late inserter past cells time first is_in last
    (sym (same_start past inserter kind cells) ∙ there) in
    let Next : List Record → Type 0 = λ rows. ListsScript font rows new in
    script_grows (time + AHEAD) font earlier (next_record past cells) old new
    (is_no_head inserter past kind many placed) late lists
    (subst Next (nearest_more past cells) (listed font (row cells ∷ past) new now.valid))

-- ---- batches

-- quotients rise with what is divided
quotients : (step a b : ℕ) → a ≤ b → a / step ≤ b / step
quotients step a b less =
    elim (eq-zero-or-pos step) [
      | inl none ↦ subst (λ (k : ℕ). a / k ≤ b / k) (sym none) (omega (arith, div-zero a, div-zero b))
      | inr some ↦ (le-div_iff_mul-le {k = step} {x = a / step} {y = b} some).1
          (omega (arith, div-mul-le_self a step, less))
    ]

-- two numbers of slots
slots_rise : (origin step first second : ℕ) → first ≤ second → slots_by origin step first ≤ slots_by origin step second
slots_rise origin step first second less =
    both (nat_lt first origin) (nat_lt second origin) refl refl
  where
    both : (a b : Bool) → nat_lt first origin ≡ a → nat_lt second origin ≡ b
        → cond a 0 ((first - origin) / step + 1) ≤ cond b 0 ((second - origin) / step + 1)
    both true b is also = omega arith
    both false true is also = absurd (let low : origin ≤ first = grind (arith, nat_tests) in
        let high : second < origin = grind (arith, nat_tests) in omega (arith, low, high, less))
    both false false is also =
        omega (arith, quotients step (first - origin) (second - origin) (omega (arith, less)))

-- the step of an inserter's packets, and where their slots begin
abbrev step_of : Inserter → ℕ
step_of inserter = (pace_of 0 (profile_of inserter.profile)).step

abbrev origin_of : Inserter → List RowOrTick → ℕ
origin_of inserter past = (looking_back inserter.font (nearest_in past)).origin

-- a prefix of bytes goes on
abbrev Begins : List ℕ → List ℕ → Type 0
Begins front bytes = (more : List ℕ) × (bytes ≡ front ++ more)

-- the scripts of two batches
record AreScripts (inserter : Inserter) (past later : List RowOrTick) (packets now : List ℕ) : Type 0 where
  old : Script
  new : Script
  was : IsScriptBehind inserter past old
  is : IsScriptBehind inserter later new
  before : IsCompiledTo (compiling_by inserter old) packets
  after : IsCompiledTo (compiling_by inserter new) now

-- either there was no epoch, or both batches have scripts
both_batches : (inserter : Inserter) (past later : List RowOrTick) (packets now : List ℕ)
    → (has_epoch (records_in past) ≡ true → has_epoch (records_in later) ≡ true)
    → IsBatchOf inserter past packets → IsBatchOf inserter later now
    → (packets ≡ []) ⊎ AreScripts inserter past later packets now
both_batches inserter past later packets now stays (inl (none, nothing)) other = inl nothing
both_batches inserter past later packets now stays (inr (some, old, right, compiled)) (inl (none, nothing)) =
    absurd (let never : true ≡ false = sym (stays some) ∙ none in cc)
both_batches inserter past later packets now stays (inr (some, old, right, compiled)) (inr (more, new, also, again)) =
    inr (record {
      old = old;
      new = new;
      was = record { epoch = some; valid = right };
      is = record { epoch = more; valid = also };
      before = compiled;
      after = again;
    })

-- one batch is that of the same rows, or of these and one more
grown_batch : (inserter : Inserter) (past later : List RowOrTick) (time : ℕ) (packets now : List ℕ)
    → (scripts : AreScripts inserter past later packets now) → Grows (time + AHEAD) scripts.old scripts.new
    → Begins (due_front inserter past time packets) now × (origin_of inserter later ≡ origin_of inserter past)
grown_batch inserter past later time packets now scripts grows =
    let font = inserter.font in
    let own : scripts.old.origin ≡ origin_of inserter past =
    (listed font past scripts.old scripts.was.valid).origin_is in
    let their : scripts.new.origin ≡ origin_of inserter later =
    (listed font later scripts.new scripts.is.valid).origin_is in
    let goes_on = due_goes_on inserter.profile inserter.pid inserter.page scripts.old scripts.new time packets now grows
    scripts.before scripts.after in (
      (
        goes_on.0,
        goes_on.1 ∙ ap (λ (origin : ℕ). take (188 * slots_by origin (step_of inserter) time) packets ++ goes_on.0) own,
      ),
      sym their ∙ grows.origin ∙ own,
    )

nothing_taken : (n : ℕ) (bytes : List ℕ) → bytes ≡ [] → take n bytes ≡ []
nothing_taken n bytes none =
    take_all n bytes (omega (arith, ap (λ (xs : List ℕ). length xs) none)) ∙ none

nothing_due : (inserter : Inserter) (past : List RowOrTick) (time : ℕ) (packets : List ℕ) → packets ≡ []
    → due_front inserter past time packets ≡ []
nothing_due inserter past time packets none =
    nothing_taken (188 * slots_by (origin_of inserter past) (step_of inserter) time) packets none

nothing_begins : (inserter : Inserter) (past : List RowOrTick) (time : ℕ) (packets now : List ℕ) → packets ≡ []
    → Begins (due_front inserter past time packets) now
nothing_begins inserter past time packets now none =
    (now, sym (ap (λ (bytes : List ℕ). bytes ++ now) (nothing_due inserter past time packets none)))

-- ---- one row or tick more

-- what is due for the last tick is a prefix of the next batch
record GoesOn (inserter : Inserter) (past : List RowOrTick) (taken : RowOrTick) (time : ℕ)
    (packets now : List ℕ) : Type 0 where
  begins : Begins (due_front inserter past time packets) now
  origin : (packets ≡ []) ⊎ (origin_of inserter (taken ∷ past) ≡ origin_of inserter past)

row_goes_on : (inserter : Inserter) (past : List RowOrTick) (taken : RowOrTick) (time : ℕ) (packets now : List ℕ)
    → last_tick past ≡ Some time → LetIn inserter (taken ∷ past) → IsBatchOf inserter past packets
    → IsBatchOf inserter (taken ∷ past) now → GoesOn inserter past taken time packets now
row_goes_on inserter past (tick later) time packets now last let_in was is =
    by (both_batches inserter past (tick later ∷ past) packets now (λ some. some) was is)
  where
    by : (packets ≡ []) ⊎ AreScripts inserter past (tick later ∷ past) packets now
        → GoesOn inserter past (tick later) time packets now
    by (inl none) = record { begins = nothing_begins inserter past time packets now none; origin = inl none }
    by (inr scripts) =
        let grows = same_script_grows (time + AHEAD) inserter.font (nearest_in past) scripts.old scripts.new
        (listed inserter.font past scripts.old scripts.was.valid)
        (listed inserter.font past scripts.new scripts.is.valid) in
        let goes_on = grown_batch inserter past (tick later ∷ past) time packets now scripts grows in
        record { begins = goes_on.0; origin = inr goes_on.1 }
row_goes_on inserter past (row cells) time packets now last let_in was is =
    by (both_batches inserter past (row cells ∷ past) packets now (still_epoch past (row cells)) was is)
  where
    by : (packets ≡ []) ⊎ AreScripts inserter past (row cells ∷ past) packets now
        → GoesOn inserter past (row cells) time packets now
    by (inl none) = record { begins = nothing_begins inserter past time packets now none; origin = inl none }
    by (inr scripts) =
        let grows = rows_grow inserter past cells time scripts.old scripts.new last let_in scripts.was scripts.is in
        let goes_on = grown_batch inserter past (row cells ∷ past) time packets now scripts grows in
        record { begins = goes_on.0; origin = inr goes_on.1 }

-- ---- all later rows

-- what was let in has a batch
last_batch : (inserter : Inserter) (taken : RowOrTick) (past : List RowOrTick) → LetIn inserter (taken ∷ past)
    → (packets : List ℕ) × IsBatchOf inserter (taken ∷ past) packets
last_batch inserter taken past ((cells, same, is), before) =
    (is.packets, subst (λ (one : RowOrTick). IsBatchOf inserter (one ∷ past) is.packets) (sym same) is.batch)

-- the last tick lies no lower than one that was let in before
record HasTick (past : List RowOrTick) (time : ℕ) : Type 0 where
  last : ℕ
  is_last : last_tick past ≡ Some last
  rises : time ≤ last

above_last : (last time : ℕ) → nat_le time last ≡ false → last < time
above_last last time test = grind (arith, nat_tests)

still_ticks : (inserter : Inserter) (taken : RowOrTick) (past : List RowOrTick) (time : ℕ)
    → LetIn inserter (taken ∷ past)
    → HasTick past time → HasTick (taken ∷ past) time
still_ticks inserter (row cells) past time let_in has =
    record { last = has.last; is_last = has.is_last; rises = has.rises }
still_ticks inserter (tick later) past time let_in has =
    let test : is_not_above (Some has.last) later ≡ false =
    sym (ap (λ (last : Option ℕ). is_not_above last later) has.is_last)
    ∙ ticks_rise inserter past later (tick_let_in inserter past later let_in) in
    record { last = later; is_last = refl; rises = omega (arith, above_last has.last later test, has.rises) }

-- what is due for a tick stands at the front of a later batch; where it is not empty, the slots begin at the same tick
record Stands (inserter : Inserter) (past later : List RowOrTick) (time : ℕ) (due now : List ℕ) : Type 0 where
  begins : Begins due now
  origin : (due ≡ []) ⊎ (origin_of inserter later ≡ origin_of inserter past)

-- a prefix that a prefix begins with
front_of_front : (due bytes more : List ℕ) (n : ℕ) → length due ≤ n → bytes ≡ due ++ more
    → Begins due (take n bytes)
front_of_front [] bytes more n short is = (take n bytes, refl)
front_of_front (first ∷ due) bytes more zero short is = absurd (omega (arith, short))
front_of_front (first ∷ due) bytes more (suc n) short is =
    let rest = front_of_front due (due ++ more) more n (omega (arith, short)) refl in
    (rest.0, ap (take (suc n)) is ∙ ap (λ (xs : List ℕ). first ∷ xs) rest.1)

begins_with : (due front bytes : List ℕ) → Begins due front → Begins front bytes → Begins due bytes
begins_with due front bytes (more, is) (rest, also) =
    (more ++ rest, also ∙ ap (λ (xs : List ℕ). xs ++ rest) is ∙ append_assoc due more rest)

no_front : (due more : List ℕ) → [] ≡ due ++ more → due ≡ []
no_front [] more is = refl
no_front (first ∷ due) more is = absurd (let never : [] ≡ first ∷ (due ++ more) = is in cc)

-- the front that is due has no more bytes than its slots have
due_short : (inserter : Inserter) (past : List RowOrTick) (time : ℕ) (packets : List ℕ)
    → length (due_front inserter past time packets) ≤ 188 * slots_by (origin_of inserter past) (step_of inserter) time
due_short inserter past time packets =
    omega (arith, length-take (188 * slots_by (origin_of inserter past) (step_of inserter) time) packets)

-- one more behind a batch that stands
one_stands : (inserter : Inserter) (past middle : List RowOrTick) (taken : RowOrTick) (time last : ℕ)
    (packets between now : List ℕ) → time ≤ last
    → Stands inserter past middle time (due_front inserter past time packets) between
    → GoesOn inserter middle taken last between now
    → Stands inserter past (taken ∷ middle) time (due_front inserter past time packets) now
one_stands inserter past middle taken time last packets between now rises stands goes_on =
    by stands.origin goes_on.origin
  where
    due : List ℕ
    due = due_front inserter past time packets

    nothing : due ≡ [] → Stands inserter past (taken ∷ middle) time due now
    nothing none = record { begins = (now, sym (ap (λ (xs : List ℕ). xs ++ now) none)); origin = inl none }

    by : (due ≡ []) ⊎ (origin_of inserter middle ≡ origin_of inserter past)
        → (between ≡ []) ⊎ (origin_of inserter (taken ∷ middle) ≡ origin_of inserter middle)
        → Stands inserter past (taken ∷ middle) time due now
    by (inl none) other = nothing none
    by (inr same) (inl none) = nothing (no_front due stands.begins.0 (sym none ∙ stands.begins.1))
    by (inr same) (inr also) =
        let n = 188 * slots_by (origin_of inserter middle) (step_of inserter) last in
        let short : length due ≤ n =
        omega (
          arith,
          due_short inserter past time packets,
          slots_rise (origin_of inserter past) (step_of inserter) time last rises,
          ap (λ (origin : ℕ). slots_by origin (step_of inserter) last) same,
        ) in
        let front = front_of_front due between stands.begins.0 n short stands.begins.1 in
        record {
          begins = begins_with due (take n between) now front goes_on.begins;
          origin = inr (also ∙ same);
        }

-- what is due for a tick stands in every later batch
all_stand : (inserter : Inserter) (past later : List RowOrTick) (time : ℕ) (packets : List ℕ)
    → LetIn inserter (later ++ tick time ∷ past) → IsBatchOf inserter past packets
    → HasTick (later ++ tick time ∷ past) time
    × ((now : List ℕ) → IsBatchOf inserter (later ++ tick time ∷ past) now
    → Stands inserter past (later ++ tick time ∷ past) time (due_front inserter past time packets) now)
all_stand inserter past [] time packets let_in was = (
  record { last = time; is_last = refl; rises = omega arith },
  λ now is. first now is (both_batches inserter past (tick time ∷ past) packets now (λ some. some) was is),
)
  where
    first : (now : List ℕ) → IsBatchOf inserter (tick time ∷ past) now
        → (packets ≡ []) ⊎ AreScripts inserter past (tick time ∷ past) packets now
        → Stands inserter past (tick time ∷ past) time (due_front inserter past time packets) now
    first now is (inl none) = record {
      begins = nothing_begins inserter past time packets now none;
      origin = inl (nothing_due inserter past time packets none);
    }
    first now is (inr scripts) =
        let grows = same_script_grows (time + AHEAD) inserter.font (nearest_in past) scripts.old scripts.new
        (listed inserter.font past scripts.old scripts.was.valid)
        (listed inserter.font past scripts.new scripts.is.valid) in
        let goes_on = grown_batch inserter past (tick time ∷ past) time packets now scripts grows in
        record { begins = goes_on.0; origin = inr goes_on.1 }
all_stand inserter past (taken ∷ later) time packets let_in was =
    let middle = later ++ tick time ∷ past in
    let before = all_stand inserter past later time packets let_in.1 was in
    let has = before.0 in (
      still_ticks inserter taken middle time let_in has,
      λ now is.
          let between = batch_of later let_in.1 in
          one_stands inserter past middle taken time has.last packets between.0 now has.rises
          (before.1 between.0 between.1)
          (row_goes_on inserter middle taken has.last between.0 now has.is_last let_in between.1 is),
    )
  where
    batch_of : (later : List RowOrTick) → LetIn inserter (later ++ tick time ∷ past)
        → (packets : List ℕ) × IsBatchOf inserter (later ++ tick time ∷ past) packets
    batch_of [] inside = last_batch inserter (tick time) past inside
    batch_of (taken ∷ later) inside = last_batch inserter taken (later ++ tick time ∷ past) inside

-- what is due for a tick is a prefix of every later batch
pub due_stays : (inserter : Inserter) (past later : List RowOrTick) (time : ℕ) (packets now : List ℕ)
    → LetIn inserter (later ++ tick time ∷ past) → IsBatchOf inserter past packets
    → IsBatchOf inserter (later ++ tick time ∷ past) now
    → (more : List ℕ) × (now ≡ due_front inserter past time packets ++ more)
due_stays inserter past later time packets now let_in was is =
    ((all_stand inserter past later time packets let_in was).1 now is).begins

-- the slots of a later tick are no fewer than those that are due
pub slots_later : (inserter : Inserter) (all past later : List RowOrTick) (time next : ℕ) (packets : List ℕ)
    → all ≡ later ++ tick time ∷ past → LetIn inserter all → IsBatchOf inserter past packets → time ≤ next
    → length (due_front inserter past time packets)
    ≤ 188 * slots_by (origin_of inserter all) (step_of inserter) next
slots_later inserter all past later time next packets parts let_in was rises =
    subst (λ (p : List RowOrTick). length due ≤ 188 * slots_by (origin_of inserter p) (step_of inserter) next)
    (sym parts)
    (by (stands later (subst (LetIn inserter) parts let_in)).origin)
  where
    due : List ℕ
    due = due_front inserter past time packets

    batch_of : (later : List RowOrTick) → LetIn inserter (later ++ tick time ∷ past)
        → (now : List ℕ) × IsBatchOf inserter (later ++ tick time ∷ past) now
    batch_of [] inside = last_batch inserter (tick time) past inside
    batch_of (taken ∷ later) inside = last_batch inserter taken (later ++ tick time ∷ past) inside

    stands : (later : List RowOrTick) → (inside : LetIn inserter (later ++ tick time ∷ past))
        → Stands inserter past (later ++ tick time ∷ past) time due (batch_of later inside).0
    stands later inside =
        let now = batch_of later inside in (all_stand inserter past later time packets inside was).1 now.0 now.1

    by : (due ≡ []) ⊎ (origin_of inserter (later ++ tick time ∷ past) ≡ origin_of inserter past)
        → length due ≤ 188 * slots_by (origin_of inserter (later ++ tick time ∷ past)) (step_of inserter) next
    by (inl none) = omega (arith, ap (λ (xs : List ℕ). length xs) none)
    by (inr same) =
        omega (
          arith,
          due_short inserter past time packets,
          slots_rise (origin_of inserter past) (step_of inserter) time next rises,
          ap (λ (origin : ℕ). slots_by origin (step_of inserter) next) same,
        )
