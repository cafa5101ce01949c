-- A reader that takes rows as they come: it stands for one row more, and its script is theirs.
use Rattle.std.proofs.Common.{suc, ◌≡◌, ◌∙◌, refl, sym, ap, subst, ℕ, ◌+◌, ◌*◌, ◌<◌, ◌≤◌, Bool, true, if◌then◌else◌, List, [], ◌∷◌, ◌++◌, length, map, reverse, take, below_more, Option, None, is_some, sum_by, arith}
use Rattle.std.proofs.lemmas.List.{reverse-append, length-reverse, take_all, take-append-le, get_or_append_left}
use Rattle.std.proofs.Props.{props}
use Rattle.std.proofs.Math.Logic.{∥∥₁_elim, ∥∥₁_map}
use Rattle.std.proofs.Math.Seq.{take-append_seam, get_or-append_seam}
use Rattle.sub_base.specs.Picture.{Picture}
use Rattle.bitmap_font.specs.Font.{FontValue}
use Rattle.cue_list.specs.declared.reader.Reader.{Reader}
use Rattle.cue_list.specs.declared.epoch.Epoch.{Epoch}
use Rattle.cue_records.specs.declared.region.Region.{Region}
use Rattle.cue_records.specs.declared.fault.ScriptKind.{ScriptKind}
use Rattle.cue_records.specs.declared.record_fault.RecordFault.{RecordFault}
use Rattle.cue_records.specs.declared.row_kind.RowKind.{RowKind}
use Rattle.cue_records.specs.declared.row_kind.RowKind.TheVariants as kinds
use Rattle.cue_list.specs.declared.script.Script.{Script}
use Rattle.cue_records.specs.Cells.{cell_at}
use Rattle.cue_list.specs.Drawn.{Brings}
use Rattle.cue_list.specs.Past.{ScriptPast, looking_back, last_epoch, regions_in, ticks_in, with_last}
use Rattle.cue_records.specs.RowValues.{area}
use Rattle.cue_records.specs.Records.{Record, kind_of, record_of, record_at, records_from, records_before}
use Rattle.cue_list.specs.RowFaults.{fault_of, fault_with, regions_of}
use Rattle.cue_records.specs.Rows.{Row, rows_of}
use Rattle.cue_list.specs.ScriptRows.{AreDrawn, AreValidRecords, Lists}
use Rattle.cue_list.specs.Sound.{IsSoundScript}
use Rattle.cue_list.specs.TakenRows.{CanGoBack, IsScriptOf, Kept, Mark, StandsFor, TakesRow, heads_of, nearest, next_fault, numbered, without_heads}
use Rattle.cue_list.specs.Private.State.{IsReader, next_with, past_of, head_of}
use Rattle.cue_records.specs.CellFaults.{IsRecordFault}
use Rattle.cue_list.specs.Private.Taken.{kept_of}
use Rattle.cue_list.proofs.PastLaws.{looking-back-more, regions-last}
use Rattle.cue_list.proofs.ReadLaws.{brings-with, cue-open, few-rows, length-numbered}
use Rattle.cue_list.proofs.ScriptLaws.{IsSound-kept, few-seconds, sound-rows, whole-pictures}
use Rattle.cue_list.proofs.SoundSteps.{SoundPast}
use Rattle.sub_base.specs.declared.pace.TheConstants.{SECOND}

-- ---- rows as records

-- the record behind rows
abbrev pub record_behind : List Row → Row → Record
record_behind rows cells = record_of (length rows + 1) cells

from-push : (n : ℕ) (rows : List Row) (cells : Row)
    → records_from n (rows ++ cells ∷ []) ≡ records_from n rows ++ record_of (n + length rows) cells ∷ []
from-push n [] cells =
    let same : n ≡ n + 0 = omega arith in
    ap (λ (m : ℕ). record_of m cells ∷ []) same
from-push n (row ∷ rows) cells =
    let same : n + 1 + length rows ≡ n + suc (length rows) = omega arith in
    ap (λ (rs : List Record). record_of n row ∷ rs) (from-push (n + 1) rows cells)
    ∙ ap (λ (m : ℕ). record_of n row ∷ (records_from (n + 1) rows ++ record_of m cells ∷ [])) same

-- one row more is one record more
pub numbered-push : (rows : List Row) (cells : Row)
    → numbered (rows ++ cells ∷ []) ≡ numbered rows ++ record_behind rows cells ∷ []
numbered-push rows cells =
    let same : 1 + length rows ≡ length rows + 1 = omega arith in
    from-push 1 rows cells ∙ ap (λ (m : ℕ). numbered rows ++ record_of m cells ∷ []) same

pub nearest-push : (rows : List Row) (cells : Row)
    → nearest (rows ++ cells ∷ []) ≡ record_behind rows cells ∷ nearest rows
nearest-push rows cells =
    ap reverse (numbered-push rows cells) ∙ reverse-append (numbered rows) (record_behind rows cells ∷ [])

pub length-nearest : (rows : List Row) → length (nearest rows) ≡ length rows
length-nearest rows = length-reverse (numbered rows) ∙ length-numbered 1 rows

length-more : (rows : List Row) (cells : Row) → length (rows ++ cells ∷ []) ≡ length rows + 1
length-more [] cells = omega arith
length-more (row ∷ rows) cells = let more = length-more rows cells in omega (arith, more)

-- all records of rows are those before the place behind them
pub before-all : (rows : List Row) → records_before (numbered rows) (length rows) ≡ nearest rows
before-all rows =
    let same = length-numbered 1 rows in
    ap reverse (take_all (length rows) (numbered rows) (omega (arith, same)))

-- how many records were taken
pub rows-counted : (font : FontValue) (rows : List Row) (kept : Kept) → StandsFor font rows kept
    → kept.past.rows ≡ length rows
rows-counted font rows kept stands = ap (λ (past : ScriptPast). past.rows) stands.found ∙ length-nearest rows

-- there are no more records left behind one than bytes
pub few-left : (text : List ℕ) (all rest : List Row) (cells : Row) (found : Bool) → all ≡ rows_of text → found ≡ true
    → all ≡ (if found then cells ∷ rest else []) → length rest ≤ length text
few-left text all rest cells found left is next =
    let same : rows_of text ≡ cells ∷ rest =
    sym left ∙ (next ∙ ap (λ (b : Bool). if b then cells ∷ rest else []) is) in
    let long : length (rows_of text) ≡ suc (length rest) = ap length same in
    let few = few-rows text in
    omega (arith, few, long)

-- ---- before the first record

pub stands-first : (font : FontValue) (kept : Kept) → kept.past ≡ looking_back font [] → kept.pictures ≡ []
    → StandsFor font [] kept
stands-first font kept found none = record {
  valid = record { there = omega arith; valid = λ k below. absurd (omega arith) };
  found = found;
  drawn = none;
}

-- ---- one row more

-- a fault that is tested by what is kept is that of the row behind the others
pub next_fault-kept : (font : FontValue) (rows : List Row) (cells : Row) (kept : Kept) → StandsFor font rows kept
    → fault_with font kept.past (record_of (kept.past.rows + 1) cells) ≡ next_fault font rows cells
next_fault-kept font rows cells kept stands =
    ap (λ (n : ℕ). fault_with font kept.past (record_of (n + 1) cells)) (rows-counted font rows kept stands)
    ∙ ap (λ (past : ScriptPast). fault_with font past (record_behind rows cells)) stands.found

module _ (font : FontValue) (rows : List Row) (cells : Row) where
  abbrev row : Record
  row = record_behind rows cells

  abbrev old_all : List Record
  old_all = numbered rows

  abbrev new_all : List Record
  new_all = numbered rows ++ record_behind rows cells ∷ []

  long : length old_all ≡ length rows
  long = length-numbered 1 rows

  -- the records before a place are the same with one more behind
  before-same : (k : ℕ) → k ≤ length rows → records_before new_all k ≡ records_before old_all k
  before-same k below =
      let all = long in
      ap reverse (take-append-le k old_all (row ∷ []) (omega (arith, all)))

  at-same : (k : ℕ) → k < length rows → record_at new_all k ≡ record_at old_all k
  at-same k below =
      let all = long in
      get_or_append_left old_all (row ∷ []) (record_of 0 []) k (omega (arith, all))

  at-last : record_at new_all (length rows) ≡ row
  at-last =
      ap (λ (n : ℕ). record_at new_all n) (sym long) ∙ get_or-append_seam old_all row [] (record_of 0 [])

  valid-more : AreValidRecords font old_all (length rows) → next_fault font rows cells ≡ None
      → AreValidRecords font (numbered (rows ++ cells ∷ [])) (length (rows ++ cells ∷ []))
  valid-more old now =
      let count = length-more rows cells in
      let counted = length-numbered 1 (rows ++ cells ∷ []) in
      let P : ℕ → Type 0 =
      λ (k : ℕ). fault_of font (records_before new_all k) (record_at new_all k) ≡ None in
      let before : (k : ℕ) → k < length rows → P k = λ k below.
      ap (λ (rs : List Record). fault_of font rs (record_at new_all k)) (before-same k (omega arith))
      ∙ ap (fault_of font (records_before old_all k)) (at-same k below) ∙ old.valid k below in
      let last : P (length rows) =
      ap (λ (rs : List Record). fault_of font rs (record_at new_all (length rows)))
      (before-same (length rows) (omega arith) ∙ before-all rows)
      ∙ ap (fault_of font (nearest rows)) at-last ∙ now in
      let each : (k : ℕ) → k < length rows + 1 → P k = below_more P (length rows) before last in
      record {
        there = omega (arith, counted);
        valid = λ k below.
            subst (λ (rs : List Record). fault_of font (records_before rs k) (record_at rs k) ≡ None)
            (sym (numbered-push rows cells)) (each k (omega (arith, count)));
      }

  pub stands-next : (old new : Kept) → StandsFor font rows old
      → fault_with font old.past (record_of (old.past.rows + 1) cells) ≡ None
      → new.past ≡ next_with font old.past (record_of (old.past.rows + 1) cells)
      → Brings font (regions_of old.past.epoch) (record_of (old.past.rows + 1) cells).kind cells old.pictures
      new.pictures
      → StandsFor font (rows ++ cells ∷ []) new
  stands-next old new stands valid kept brings =
      let count = rows-counted font rows old stands in
      let earlier = nearest rows in
      let valid_now : next_fault font rows cells ≡ None =
      sym (next_fault-kept font rows cells old stands) ∙ valid in
      let begun : row.kind ≡ kinds.Cue → is_some (last_epoch font earlier) ≡ true =
      λ (is : row.kind ≡ kinds.Cue).
      ap (λ (past : ScriptPast). is_some past.epoch) (sym stands.found)
      ∙ cue-open font old.past row.kind (old.past.rows + 1) cells valid is in
      let regions : row.kind ≡ kinds.Cue → regions_of old.past.epoch ≡ regions_in earlier =
      λ (is : row.kind ≡ kinds.Cue).
      ap (λ (past : ScriptPast). regions_of past.epoch) stands.found ∙ regions-last font earlier (begun is) in
      let found : new.past ≡ looking_back font (row ∷ earlier) =
      kept
      ∙ (ap (λ (n : ℕ). next_with font old.past (record_of (n + 1) cells)) count
      ∙ (ap (λ (past : ScriptPast). next_with font past row) stands.found
      ∙ sym (looking-back-more font earlier row begun))) in
      let drawn : AreDrawn font (row ∷ earlier) new.pictures = (
        old.pictures,
        stands.drawn,
        brings-with font (regions_of old.past.epoch) (regions_in earlier) row.kind cells
            old.pictures new.pictures regions brings,
      ) in
      record {
        valid = valid-more stands.valid valid_now;
        found = found ∙ ap (looking_back font) (sym (nearest-push rows cells));
        drawn =
            subst (λ (rs : List Record). AreDrawn font rs new.pictures) (sym (nearest-push rows cells)) drawn;
      }

-- a record leaves the pictures before it as they are
pub brings-front : (font : FontValue) (regions : List Region) (kind : RowKind) (cells : Row) (old new : List Picture)
    → Brings font regions kind cells old new → take (length old) new ≡ old
brings-front font regions kinds.Origin cells old new brings =
    ap (take (length old)) brings ∙ take_all _ old (omega arith)
brings-front font regions kinds.Display cells old new brings =
    ap (take (length old)) brings ∙ take_all _ old (omega arith)
brings-front font regions kinds.Refresh cells old new brings =
    ap (take (length old)) brings ∙ take_all _ old (omega arith)
brings-front font regions kinds.Epoch cells old new brings =
    ap (take (length old)) brings ∙ take_all _ old (omega arith)
brings-front font regions kinds.Region cells old new brings =
    ap (take (length old)) brings ∙ take_all _ old (omega arith)
brings-front font regions kinds.Colour cells old new brings =
    ap (take (length old)) brings ∙ take_all _ old (omega arith)
brings-front font regions kinds.Picture cells old new brings =
    ap (take (length old)) brings.added ∙ take-append_seam old (brings.picture ∷ [])
brings-front font regions kinds.Place cells old new brings =
    ap (take (length old)) brings ∙ take_all _ old (omega arith)
brings-front font regions kinds.Cue cells old new brings =
    ap (take (length old)) brings.added ∙ take-append_seam old (brings.picture ∷ [])
brings-front font regions kinds.Other cells old new brings =
    ap (take (length old)) brings ∙ take_all _ old (omega arith)

-- the row was taken, and what was kept before it is known but for the pictures
pub takes-row : (font : FontValue) (rows : List Row) (cells : Row) (old new : Kept) (mark : Mark)
    → old.past.heads ≡ heads_of old.pictures → mark.past ≡ without_heads old.past
    → mark.count ≡ length old.pictures
    → fault_with font old.past (record_of (old.past.rows + 1) cells) ≡ None
    → new.past ≡ next_with font old.past (record_of (old.past.rows + 1) cells)
    → Brings font (regions_of old.past.epoch) (record_of (old.past.rows + 1) cells).kind cells old.pictures
    new.pictures
    → StandsFor font rows old → TakesRow font rows cells new mark
takes-row font rows cells old new mark sized marked counted valid kept brings stands = record {
  valid = sym (next_fault-kept font rows cells old stands) ∙ valid;
  stands = stands-next font rows cells old new stands valid kept brings;
  back = record {
    kept = old;
    stood = stands;
    sized = sized;
    marked = marked;
    front =
        ap (λ (n : ℕ). take n new.pictures) counted
        ∙ brings-front font (regions_of old.past.epoch) (record_of (old.past.rows + 1) cells).kind cells
        old.pictures new.pictures brings;
  };
}

-- the way back leads to where the reader stood
pub goes-back : (font : FontValue) (rows : List Row) (now new : Kept) (mark : Mark) → CanGoBack font rows now mark
    → new.pictures ≡ take mark.count now.pictures
    → new.past ≡ record mark.past { heads = heads_of new.pictures }
    → StandsFor font rows new
goes-back font rows now new mark back pictures past =
    let kept = back.kept in
    let same : new.pictures ≡ kept.pictures = pictures ∙ back.front in
    let heads : heads_of new.pictures ≡ kept.past.heads = ap heads_of same ∙ sym back.sized in
    let was : new.past ≡ kept.past =
    past ∙ (λ i. record (back.marked i) { heads = heads i }) in
    record {
      valid = back.stood.valid;
      found = was ∙ back.stood.found;
      drawn = subst (AreDrawn font (nearest rows)) (sym same) back.stood.drawn;
    }

-- ---- what is kept inside

-- a reader with the pictures of another one
pub reader-with : (reader other : Reader) → IsReader reader
    → length other.pictures.items ≤ reader.named + reader.cues
    → IsReader (record reader { pictures = other.pictures })
reader-with reader other is few = record {
  ticks = is.ticks;
  origin = is.origin;
  few_colours = is.few_colours;
  few_named = is.few_named;
  few_cues = is.few_cues;
  few_pictures = few;
  few_codes = is.few_codes;
}

-- a copy of a reader: it says the same, and has its pictures
pub record IsCopy (reader copy : Reader) : Type 0 where
  pub past : past_of copy ≡ past_of reader
  pub pictures : copy.pictures ≡ reader.pictures

-- a record was taken on a copy
pub record IsTakenBy (font : FontValue) (cells : Row) (copy next : Reader) : Type 0 where
  pub valid : fault_with font (past_of copy) (record_of (copy.rows + 1) cells) ≡ None
  pub next_is : past_of next ≡ next_with font (past_of copy) (record_of (copy.rows + 1) cells)
  pub brings : Brings font (regions_of copy.epoch) (kind_of (cell_at cells 0)) cells copy.pictures.items
      next.pictures.items

copy-kept : (reader copy : Reader) (old : Kept) → kept_of reader ≡ old → IsCopy reader copy → kept_of copy ≡ old
copy-kept reader copy old seen is =
    (λ i. record { past = is.past i; pictures = (is.pictures i).items }) ∙ seen

pub takes-inside : (font : FontValue) (rows : List Row) (cells : Row) (reader copy next : Reader) (old : Kept)
    (mark : Mark) → kept_of reader ≡ old → IsCopy reader copy
    → mark.past ≡ without_heads (past_of reader) → mark.count ≡ length reader.pictures.items
    → IsTakenBy font cells copy next → StandsFor font rows old → TakesRow font rows cells (kept_of next) mark
takes-inside font rows cells reader copy next old mark seen is marked counted taken stands =
    takes-row font rows cells (kept_of copy) (kept_of next) mark refl
    (marked ∙ ap without_heads (sym is.past))
    (counted ∙ ap (λ v. length v.items) (sym is.pictures))
    taken.valid taken.next_is taken.brings
    (subst (StandsFor font rows) (sym (copy-kept reader copy old seen is)) stands)

pub refused-inside : (font : FontValue) (rows : List Row) (cells : Row) (reader copy : Reader) (old : Kept)
    (fault : RecordFault) → kept_of reader ≡ old → IsCopy reader copy
    → IsRecordFault (fault_with font (past_of copy) (record_of (copy.rows + 1) cells)) fault
    → StandsFor font rows old → IsRecordFault (next_fault font rows cells) fault
refused-inside font rows cells reader copy old fault seen is wrong stands =
    subst (λ (cause : Option ScriptKind). IsRecordFault cause fault)
    (next_fault-kept font rows cells (kept_of copy)
    (subst (StandsFor font rows) (sym (copy-kept reader copy old seen is)) stands)) wrong

-- what is left of a reader whose pictures were moved
pub left-marked : (reader left kept : Reader) → kept ≡ left → left ≡ record reader { pictures = left.pictures }
    → left.pictures.items ≡ [] → past_of kept ≡ without_heads (past_of reader)
left-marked reader left kept same is none =
    ap past_of same ∙ ap past_of is ∙ (λ i. record (past_of reader) { heads = map head_of (none i) })

-- a reader that gets its pictures back is as before
pub stays-inside : (reader left other : Reader) (old : Kept) → kept_of reader ≡ old
    → left ≡ record reader { pictures = left.pictures } → other.pictures.items ≡ reader.pictures.items
    → kept_of (record left { pictures = other.pictures }) ≡ old
stays-inside reader left other old seen is same =
    ap (λ (r : Reader). kept_of (record r { pictures = other.pictures })) is
    ∙ (λ i. record { past = record (past_of reader) { heads = map head_of (same i) }; pictures = same i }) ∙ seen

pub back-inside : (font : FontValue) (rows : List Row) (reader kept new : Reader) (count : ℕ) (old : Kept)
    (mark : Mark) → kept_of reader ≡ old → record { past = past_of kept; count = count } ≡ mark
    → new ≡ record kept { pictures = new.pictures } → new.pictures.items ≡ take count reader.pictures.items
    → CanGoBack font rows old mark → StandsFor font rows (kept_of new)
back-inside font rows reader kept new count old mark seen marked is cut back =
    let here : CanGoBack font rows (kept_of reader) (record { past = past_of kept; count = count }) =
    subst (λ (k : Kept). CanGoBack font rows k (record { past = past_of kept; count = count })) (sym seen)
    (subst (CanGoBack font rows old) (sym marked) back) in
    goes-back font rows (kept_of reader) (kept_of new) (record { past = past_of kept; count = count }) here cut
    (ap past_of is)

-- ---- the script

-- what a reader keeps for rows with an epoch is sound
pub IsSound-stands : (font : FontValue) (rows : List Row) (kept : Reader) → IsReader kept
    → StandsFor font rows (kept_of kept) → is_some kept.epoch ≡ true
    → IsSoundScript kept.origin kept.width kept.height (90000 * kept.seconds) (with_last kept.ended.items kept.epoch)
    kept.pictures.items
IsSound-stands font rows kept reader stands some =
    let earlier = nearest rows in
    let sound : SoundPast (looking_back font earlier) (ticks_in earlier) =
    subst (λ (rs : List Record). SoundPast (looking_back font rs) (ticks_in rs)) (before-all rows)
    (sound-rows font (numbered rows) (length rows) stands.valid) in
    let heads : map head_of kept.pictures.items ≡ (looking_back font earlier).heads =
    ap (λ (past : ScriptPast). past.heads) stands.found in
    let codes : kept.codes ≡ (looking_back font earlier).codes = ap (λ (past : ScriptPast). past.codes) stands.found in
    IsSound-kept kept (ticks_in earlier) reader
    (subst (λ (past : ScriptPast). SoundPast past (ticks_in earlier)) (sym stands.found) sound) some
    (whole-pictures font earlier kept.pictures.items stands.drawn)
    (codes ∙ ap (sum_by area) (sym heads))

few-prop : (n : ℕ) → IsProp (n ≤ 5400000)
few-prop n = hlevel props

-- the rows of a reader, of which only that there are some is known
abbrev pub AreSomeRows : Reader → Type 0
AreSomeRows kept = ∥ ((font : FontValue) × (rows : List Row) × StandsFor font rows (kept_of kept)) ∥₁

pub few-stands : (kept : Reader) → IsReader kept → AreSomeRows kept → is_some kept.epoch ≡ true
    → 90000 * kept.seconds ≤ 5400000
few-stands kept reader stands some =
    ∥∥₁_elim stands (few-prop (90000 * kept.seconds))
    (λ x. few-seconds _ _ _ _ _ _ (IsSound-stands x.0 x.1 kept reader x.2 some))

pub script-sound : (kept : Reader) (epochs : List Epoch) (pictures : List Picture) → IsReader kept → AreSomeRows kept
    → is_some kept.epoch ≡ true → epochs ≡ with_last kept.ended.items kept.epoch → pictures ≡ kept.pictures.items
    → ∥ IsSoundScript kept.origin kept.width kept.height (90000 * kept.seconds) epochs pictures ∥₁
script-sound kept epochs pictures reader stands some epochs_are pictures_are =
    ∥∥₁_map stands
    (λ x. subst
    (λ (es : List Epoch). IsSoundScript kept.origin kept.width kept.height (90000 * kept.seconds) es pictures)
    (sym epochs_are)
    (subst
    (λ (ps : List Picture). IsSoundScript kept.origin kept.width kept.height (90000 * kept.seconds)
    (with_last kept.ended.items kept.epoch) ps)
    (sym pictures_are) (IsSound-stands x.0 x.1 kept reader x.2 some)))

-- and is the script of these rows
pub IsScriptOf-stands : (font : FontValue) (rows : List Row) (kept : Kept) (script : Script)
    → StandsFor font rows kept → is_some kept.past.epoch ≡ true
    → script.origin ≡ kept.past.origin → script.width ≡ kept.past.width → script.height ≡ kept.past.height
    → script.refresh ≡ SECOND * kept.past.seconds → script.epochs ≡ with_last kept.past.ended kept.past.epoch
    → script.pictures ≡ kept.pictures
    → IsScriptOf font (numbered rows) script
IsScriptOf-stands font rows kept script stands some origin width height refresh epochs pictures =
    let found = stands.found in
    let long : length rows ≡ length (numbered rows) = sym (length-numbered 1 rows) in
    let listed : Lists font (nearest rows) script.origin script.width script.height script.refresh script.epochs
    script.pictures = record {
      origin_is = origin ∙ ap (λ (past : ScriptPast). past.origin) found;
      width_is = width ∙ ap (λ (past : ScriptPast). past.width) found;
      height_is = height ∙ ap (λ (past : ScriptPast). past.height) found;
      refresh_is = refresh ∙ ap (λ (past : ScriptPast). SECOND * past.seconds) found;
      some_epoch = ap (λ (past : ScriptPast). is_some past.epoch) (sym found) ∙ some;
      epochs_are = epochs ∙ ap (λ (past : ScriptPast). with_last past.ended past.epoch) found;
      pictures_are = subst (AreDrawn font (nearest rows)) (sym pictures) stands.drawn;
    } in
    record {
      valid = subst (AreValidRecords font (numbered rows)) long stands.valid;
      lists =
          subst (λ (n : ℕ). Lists font (records_before (numbered rows) n) script.origin script.width script.height
          script.refresh script.epochs script.pictures) long
          (subst (λ (rs : List Record). Lists font rs script.origin script.width script.height script.refresh
          script.epochs script.pictures) (sym (before-all rows)) listed);
    }
