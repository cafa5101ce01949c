-- Records one after another.
use Rattle.std.proofs.Common.{zero, suc, ◌≡◌, ◌∙◌, inl, inr, refl, sym, ap, subst, ℕ, ◌+◌, ◌<◌, ◌≤◌, Bool, true, false, not, if◌then◌else◌, List, [], ◌∷◌, length, reverse, take, drop, get_or, below_more, Option, Some, None, is_some, Result, Ok, Err, IfErr, arith}
use Rattle.std.proofs.lemmas.List.{reverse-append, take_more}
use Rattle.csv.specs.Machine.{next_record, Read}
use Rattle.csv.specs.Reading.{default_config, records_from, records_next, strip_bom, is_bom}
use Rattle.csv.specs.declared.parser.State.{State}
use Rattle.csv.specs.declared.parser.State.TheVariants as st
use Rattle.sub_base.specs.Picture.{Picture}
use Rattle.bitmap_font.specs.Font.{FontValue}
use Rattle.cue_records.specs.declared.region.Region.{Region}
use Rattle.cue_records.specs.declared.fault.ScriptKind.{ScriptKind}
use Rattle.cue_records.specs.declared.fault.ScriptKind.TheVariants as faults
use Rattle.cue_list.specs.declared.reader.Reader.{Reader}
use Rattle.cue_records.specs.declared.row_kind.RowKind.{RowKind}
use Rattle.cue_records.specs.declared.row_kind.RowKind.TheVariants as kinds
use Rattle.cue_records.specs.CellFaults.{first_of, fails}
use Rattle.cue_list.specs.Drawn.{Brings}
use Rattle.cue_list.specs.Private.HasRead.{HasRead}
use Rattle.cue_list.specs.Past.{ScriptPast, looking_back, last_epoch, regions_in}
use Rattle.cue_records.specs.Records.{Record, records_of, records_from as numbered, record_of, records_before, record_at}
use Rattle.cue_list.specs.RowFaults.{fault_with, fault_of, is_misplaced, regions_of}
use Rattle.cue_records.specs.Rows.{Row, rows_of}
use Rattle.cue_list.specs.ScriptRows.{AreValidRecords, AreDrawn, IsRefusedRecord}
use Rattle.cue_list.specs.Private.State.{IsReader, past_of, next_with}
use Rattle.cue_list.proofs.PastLaws.{looking-back-more, regions-last}

-- ---- lists

few-next : (n : ℕ) (more : State → List ℕ → List Row) (o : Option Read)
    → ((s : State) (xs : List ℕ) → length (more s xs) ≤ n) → length (records_next more o) ≤ suc n
few-next n more None few = omega arith
few-next n more (Some p) few = let below = few p.1 p.2 in omega arith

-- there are no more records than bytes, and one more
few-from : (n : ℕ) (s : State) (xs : List ℕ) → length (records_from default_config n s xs) ≤ n
unfolding records_from
few-from zero s xs = omega arith
few-from (suc n) s xs =
    few-next n (records_from default_config n) (next_record default_config s [] [] xs) (λ t ys. few-from n t ys)

shorter : (b : Bool) (x y : List ℕ) (n : ℕ) → length x ≤ n → length y ≤ n
    → length (if b then x else y) ≤ n
shorter true x y n h k = h
shorter false x y n h k = k

bom-shorter : (text : List ℕ) → length (strip_bom text) ≤ length text
unfolding strip_bom
bom-shorter [] = omega arith
bom-shorter (a ∷ []) = omega arith
bom-shorter (a ∷ b ∷ []) = omega arith
bom-shorter (a ∷ b ∷ c ∷ rest) =
    shorter (is_bom a b c) rest (a ∷ b ∷ c ∷ rest) (length (a ∷ b ∷ c ∷ rest)) (omega arith) (omega arith)

pub few-rows : (bytes : List ℕ) → length (rows_of bytes) ≤ length bytes + 1
few-rows bytes =
    let few = few-from (length (strip_bom bytes) + 1) st.StartRecord (strip_bom bytes) in
    let short = bom-shorter bytes in
    omega arith

pub length-numbered : (n : ℕ) (rows : List Row) → length (numbered n rows) ≡ length rows
length-numbered n [] = refl
length-numbered n (row ∷ rows) = ap suc (length-numbered (n + 1) rows)

pub length-records : (bytes : List ℕ) → length (records_of bytes) ≡ length (rows_of bytes)
length-records bytes = length-numbered 1 (rows_of bytes)

numbered-at : (n : ℕ) (rows : List Row) (k : ℕ) (other : Record) → k < length rows
    → get_or (numbered n rows) k other ≡ record_of (n + k) (get_or rows k [])
numbered-at n [] k other within = absurd (omega arith)
numbered-at n (row ∷ rows) zero other within =
    let same : n ≡ n + 0 = omega arith in
    ap (λ (m : ℕ). record_of m row) same
numbered-at n (row ∷ rows) (suc k) other within =
    let same : n + 1 + k ≡ n + suc k = omega arith in
    numbered-at (n + 1) rows k other (omega arith) ∙ ap (λ (m : ℕ). record_of m (get_or rows k [])) same

-- the record at a place of the script
pub record_at-row : (bytes : List ℕ) (k : ℕ) → k < length (rows_of bytes)
    → record_at (records_of bytes) k ≡ record_of (k + 1) (get_or (rows_of bytes) k [])
record_at-row bytes k within =
    let same : 1 + k ≡ k + 1 = omega arith in
    numbered-at 1 (rows_of bytes) k _ within ∙ ap (λ (m : ℕ). record_of m (get_or (rows_of bytes) k [])) same

-- one more record before the one at hand
pub before-more : (all : List Record) (n : ℕ) → n < length all
    → records_before all (n + 1) ≡ record_at all n ∷ records_before all n
before-more all n within =
    ap reverse (take_more all n (record_of 0 []) within) ∙ reverse-append (take n all) (record_at all n ∷ [])

next-row : (rows : List Row) (n : ℕ) (x : Row) (rest : List Row) → drop n rows ≡ x ∷ rest → (n < length rows)
    × (get_or rows n [] ≡ x) × (drop (n + 1) rows ≡ rest)
next-row [] zero x rest e = absurd (let never : [] ≡ x ∷ rest = e in cc)
next-row [] (suc n) x rest e = absurd (let never : [] ≡ x ∷ rest = e in cc)
next-row (y ∷ rows) zero x rest e = let same : y ∷ rows ≡ x ∷ rest = e in (omega arith, cc, cc)
next-row (y ∷ rows) (suc n) x rest e =
    let more = next-row rows n x rest e in
    let on : suc n + 1 ≡ suc (n + 1) = omega arith in
    (omega (arith, more.0), more.1, ap (λ (k : ℕ). drop k (y ∷ rows)) on ∙ more.2)

-- ---- a record

-- what a first test leaves to the others
second-none : (a b c d e : Option ScriptKind) → first_of (a ∷ b ∷ c ∷ d ∷ e ∷ []) ≡ None → b ≡ None
second-none (Some k) b c d e h = absurd (let never : Some k ≡ None = h in cc)
second-none None None c d e h = refl
second-none None (Some k) c d e h = absurd (let never : Some k ≡ None = h in cc)

passes : (wrong : Bool) (kind : ScriptKind) → fails wrong kind ≡ None → wrong ≡ false
passes true kind h = absurd (let never : Some kind ≡ None = h in cc)
passes false kind h = refl

not-none : {A : Type 0} (o : Option A) → not (is_some o) ≡ false → is_some o ≡ true
not-none None h = absurd (let never : true ≡ false = h in cc)
not-none (Some x) h = refl

-- a valid cue stands in an epoch
pub cue-open : (font : FontValue) (past : ScriptPast) (kind : RowKind) (number : ℕ) (cells : Row)
    → fault_with font past (record { number = number; kind = kind; cells = cells }) ≡ None → kind ≡ kinds.Cue
    → is_some past.epoch ≡ true
cue-open font past kind number cells valid is =
    let placed : is_misplaced past kind ≡ false = passes _ _ (second-none _ _ _ _ _ valid) in
    not-none past.epoch (ap (is_misplaced past) (sym is) ∙ placed)

-- only a cue's picture depends on the regions
pub brings-with : (font : FontValue) (first second : List Region) (kind : RowKind) (cells : Row)
    (old new : List Picture)
    → (kind ≡ kinds.Cue → first ≡ second)
    → Brings font first kind cells old new → Brings font second kind cells old new
brings-with font first second kinds.Origin cells old new same brings = brings
brings-with font first second kinds.Display cells old new same brings = brings
brings-with font first second kinds.Refresh cells old new same brings = brings
brings-with font first second kinds.Epoch cells old new same brings = brings
brings-with font first second kinds.Region cells old new same brings = brings
brings-with font first second kinds.Colour cells old new same brings = brings
brings-with font first second kinds.Picture cells old new same brings = brings
brings-with font first second kinds.Place cells old new same brings = brings
brings-with font first second kinds.Cue cells old new same brings =
    subst (λ (regions : List Region). Brings font regions kinds.Cue cells old new) (same refl) brings
brings-with font first second kinds.Other cells old new same brings = brings

AreValid-more : (font : FontValue) (all : List Record) (n : ℕ) → n < length all → AreValidRecords font all n
    → fault_of font (records_before all n) (record_at all n) ≡ None → AreValidRecords font all (n + 1)
AreValid-more font all n within valid now = record {
  there = omega arith;
  valid = below_more (λ k. fault_of font (records_before all k) (record_at all k) ≡ None) n valid.valid now;
}

-- ---- the reader

-- before the first record
pub HasRead-first : (bytes : List ℕ) (font : FontValue) (kept : Reader) → IsReader kept → kept.rows ≡ 0
    → past_of kept ≡ looking_back font [] → kept.pictures.items ≡ [] → HasRead bytes font (rows_of bytes) kept
HasRead-first bytes font kept reader none stands drawn =
    let start : (n : ℕ) → n ≡ 0 → records_before (records_of bytes) n ≡ [] = λ n e. rw e refl in
    let whole : drop kept.rows (rows_of bytes) ≡ rows_of bytes = ap (λ (n : ℕ). drop n (rows_of bytes)) none in
    record {
      left_is = sym whole;
      valid = record { there = omega arith; valid = λ k below. absurd (omega arith) };
      reader = reader;
      stands = stands ∙ ap (looking_back font) (sym (start kept.rows none));
      drawn =
          subst (λ (rows : List Record). AreDrawn font rows kept.pictures.items) (sym (start kept.rows none)) drawn;
    }

module _ (bytes : List ℕ) (font : FontValue) (left rest : List Row) (kept : Reader) (cells : Row)
    (read : HasRead bytes font left kept) (next : left ≡ cells ∷ rest) where
  abbrev all : List Record
  all = records_of bytes

  abbrev row : Record
  row = record_of (kept.rows + 1) cells

  at : (kept.rows < length (rows_of bytes)) × (get_or (rows_of bytes) kept.rows [] ≡ cells)
      × (drop (kept.rows + 1) (rows_of bytes) ≡ rest)
  at = next-row (rows_of bytes) kept.rows cells rest (sym read.left_is ∙ next)

  within : kept.rows < length all
  within = let same = length-records bytes in let below = at.0 in omega arith

  row-is : record_at all kept.rows ≡ row
  row-is = record_at-row bytes kept.rows at.0 ∙ ap (record_of (kept.rows + 1)) at.1

  -- the fault of the record at hand
  fault-is : fault_of font (records_before all kept.rows) (record_at all kept.rows)
      ≡ fault_with font (past_of kept) row
  fault-is =
      ap (fault_of font (records_before all kept.rows)) row-is
      ∙ ap (λ (past : ScriptPast). fault_with font past row) (sym read.stands)

  pub room-next : kept.rows + 1 ≤ length bytes + 1
  room-next = let few = few-rows bytes in let below = at.0 in omega arith

  -- a record that is wrong
  pub IsRefused-row : (kind : ScriptKind) → fault_with font (past_of kept) row ≡ Some kind
      → IsRefusedRecord bytes font (kept.rows + 1) kind
  IsRefused-row kind wrong = record {
    before = kept.rows;
    number = refl;
    valid = read.valid;
    wrong = inl (within, fault-is ∙ wrong);
  }

  -- a record that is valid
  pub HasRead-next : (new : Reader) → IsReader new → fault_with font (past_of kept) row ≡ None
      → past_of new ≡ next_with font (past_of kept) row
      → Brings font (regions_of kept.epoch) row.kind cells kept.pictures.items new.pictures.items
      → HasRead bytes font rest new
  HasRead-next new reader valid kept_is brings =
      let earlier = records_before all kept.rows in
      let count : new.rows ≡ kept.rows + 1 = ap (λ (past : ScriptPast). past.rows) kept_is in
      let begun : row.kind ≡ kinds.Cue → is_some (last_epoch font earlier) ≡ true =
      λ (is : row.kind ≡ kinds.Cue).
      ap (λ (past : ScriptPast). is_some past.epoch) (sym read.stands)
      ∙ cue-open font (past_of kept) row.kind row.number row.cells valid is in
      let more : records_before all (kept.rows + 1) ≡ row ∷ earlier =
      before-more all kept.rows within ∙ ap (λ (r : Record). r ∷ earlier) row-is in
      let epochs : kept.epoch ≡ last_epoch font earlier = ap (λ (past : ScriptPast). past.epoch) read.stands in
      let regions : row.kind ≡ kinds.Cue → regions_of kept.epoch ≡ regions_in earlier =
      λ (is : row.kind ≡ kinds.Cue).
      ap regions_of epochs ∙ regions-last font earlier (begun is) in
      let stands : past_of new ≡ looking_back font (row ∷ earlier) =
      kept_is ∙
      (ap (λ (past : ScriptPast). next_with font past row) read.stands
      ∙ sym (looking-back-more font earlier row begun)) in
      let drawn : AreDrawn font (row ∷ earlier) new.pictures.items = (
        kept.pictures.items,
        read.drawn,
        brings-with font (regions_of kept.epoch) (regions_in earlier) row.kind cells
            kept.pictures.items new.pictures.items regions brings,
      ) in
      let at_new : records_before all new.rows ≡ row ∷ earlier = ap (records_before all) count ∙ more in
      record {
        left_is = sym at.2 ∙ ap (λ (n : ℕ). drop n (rows_of bytes)) (sym count);
        valid =
            subst (AreValidRecords font all) (sym count)
            (AreValid-more font all kept.rows within read.valid (fault-is ∙ valid));
        reader = reader;
        stands = stands ∙ ap (looking_back font) (sym at_new);
        drawn = subst (λ (rows : List Record). AreDrawn font rows new.pictures.items) (sym at_new) drawn;
      }

nothing_left : (rows : List Row) (n : ℕ) → n ≤ length rows → drop n rows ≡ [] → n ≡ length rows
nothing_left [] zero there e = refl
nothing_left [] (suc n) there e = absurd (omega arith)
nothing_left (row ∷ rows) zero there e = absurd (let never : row ∷ rows ≡ [] = e in cc)
nothing_left (row ∷ rows) (suc n) there e = ap suc (nothing_left rows n (omega arith) e)

-- all records were read
pub all-read : (bytes : List ℕ) (font : FontValue) (left : List Row) (kept : Reader)
    → HasRead bytes font left kept → left ≡ [] → kept.rows ≡ length (records_of bytes)
all-read bytes font left kept read none =
    let same = length-records bytes in
    let there = read.valid.there in
    nothing_left (rows_of bytes) kept.rows (omega arith) (sym read.left_is ∙ none) ∙ sym same

-- all records are valid, and none starts an epoch
pub IsRefused-whole : (bytes : List ℕ) (font : FontValue) (left : List Row) (kept : Reader)
    → HasRead bytes font left kept → left ≡ [] → kept.epoch ≡ None
    → IsRefusedRecord bytes font (kept.rows + 1) faults.Order
IsRefused-whole bytes font left kept read none closed = record {
  before = kept.rows;
  number = refl;
  valid = read.valid;
  wrong =
      inr (
        all-read bytes font left kept read none,
        ap (λ (past : ScriptPast). past.epoch) (sym read.stands)
            ∙ closed,
        refl,
      );
}

-- a fault that follows from another
pub IfErr-follows : {A E : Type 0} (P Q : E → Type 0) (answer : Result A E)
    → ((fault : E) → P fault → Q fault) → IfErr answer P → IfErr answer Q
IfErr-follows P Q (Ok value) follows told = tt
IfErr-follows P Q (Err fault) follows told = follows fault told
