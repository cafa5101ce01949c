use Rattle.std.proofs.Common.{zero, suc, ◌+◌, ◌<◌, [], ◌∷◌, length, drop, add-one, arith, ◌≡◌, ℕ, List, Bool, true, false, ◌⊎◌, inl, inr, refl, sym, Result, Ok, Err, MatchResult, is_ok}
use Rattle.std.specs.Str.{IsUtf8, is_utf8}
use Rattle.csv.specs.Records.{field_at}
use Rattle.cue_records.specs.CellFaults.{is_text_row}
use Rattle.cue_records.specs.Cells.{cell_at}
use Rattle.cue_records.specs.Rows.{Row}
use Rattle.cue_records.proofs.TestLaws.{both-true}
use Rattle.std.proofs.lemmas.Str.{is_utf8-from_IsUtf8, IsUtf8-from_is_utf8}

-- a test is true or false
either : (b : Bool) → (b ≡ true) ⊎ (b ≡ false)
either true = inl refl
either false = inr refl

-- bytes are read as text exactly where they are text
pub is_ok-is_utf8 : {T E : Type 0} (bytes : List ℕ) (Q : T → Type 0) (R : E → Type 0) (r : Result T E)
    → MatchResult r (λ s. Q s × IsUtf8 bytes) (λ e. ¬ (IsUtf8 bytes) × R e) → is_ok r ≡ is_utf8 bytes
is_ok-is_utf8 bytes Q R (Ok s) told = sym (is_utf8-from_IsUtf8 bytes told.1)
is_ok-is_utf8 bytes Q R (Err e) told =
    elim (either (is_utf8 bytes)) [
      | inl so ↦ absurd (told.0 (IsUtf8-from_is_utf8 bytes so))
      | inr not_so ↦ sym not_so
    ]

-- the cell at a place and the cells after it
pub drop-cell : (row : Row) (place : ℕ) → place < length row
    → drop place row ≡ cell_at row place ∷ drop (place + 1) row
unfolding field_at
drop-cell [] place within = absurd (omega arith)
drop-cell (cell ∷ row) zero within = refl
drop-cell (cell ∷ row) (suc place) within = rw add-one (rw add-one at (drop-cell row place (omega arith)))

-- each cell of a record of text is text
pub is_utf8-cell : (row : Row) (place : ℕ) → is_text_row row ≡ true → is_utf8 (cell_at row place) ≡ true
unfolding field_at
is_utf8-cell [] place all = is_utf8-from_IsUtf8 [] ([], (refl, refl))
is_utf8-cell (cell ∷ row) zero all = (both-true (is_utf8 cell) (is_text_row row) all).0
is_utf8-cell (cell ∷ row) (suc place) all = is_utf8-cell row place (both-true (is_utf8 cell) (is_text_row row) all).1

-- the tests of the cells from a place on
pub is_text_row-next : (row : Row) (place : ℕ) → place < length row → is_utf8 (cell_at row place) ≡ true
    → is_text_row (drop place row) ≡ is_text_row (drop (place + 1) row)
is_text_row-next row place within text = rw (drop-cell row place within, text) refl

pub is_text_row-not : (row : Row) (place : ℕ) → place < length row → is_utf8 (cell_at row place) ≡ false
    → is_text_row (drop place row) ≡ false
is_text_row-not row place within text = rw (drop-cell row place within, text) refl
