-- Slots in a row, behind other slots.
use Rattle.std.proofs.Common.{◌≡◌, ◌∙◌, ℕ, zero, suc, ◌+◌, ◌-◌, ◌<◌, inl, inr, List, [], ◌∷◌, ◌++◌, length, refl, ap, sym, arith, length-append}
use Rattle.std.specs.Prelude.{slice_index}
use Rattle.std.specs.List.Sorted.{IsStrictlyIncreasing}
use Rattle.std.proofs.Math.ListN.{get_or-append}
use Rattle.std.proofs.Math.Seq.{get_or-append_seam}
use Rattle.std.proofs.lemmas.Bool.{cases_lt}
use Rattle.schedule.proofs.SendLaws.{rise-more}

-- these slots, and behind them so many slots in a row from that one on
abbrev pub with_row : List ℕ → ℕ → ℕ → List ℕ
with_row slots slot zero = slots
with_row slots slot (suc count) = with_row slots slot count ++ (slot + count) ∷ []

-- there are as many more
pub row_length : (slots : List ℕ) (slot count : ℕ) → length (with_row slots slot count) ≡ length slots + count
row_length slots slot zero = omega arith
row_length slots slot (suc count) = omega (
  arith,
  length-append (with_row slots slot count) ((slot + count) ∷ []),
  row_length slots slot count,
)

-- the slots before stay
pub row_before : (slots : List ℕ) (slot count m : ℕ) → m < length slots
    → slice_index (with_row slots slot count) m ≡ slice_index slots m
row_before slots slot zero m below = refl
row_before slots slot (suc count) m below =
    get_or-append (with_row slots slot count) ((slot + count) ∷ []) 0 m (omega (arith, row_length slots slot count))
    ∙ row_before slots slot count m below

-- the last of the row
row_last : (slots : List ℕ) (slot count : ℕ)
    → slice_index (with_row slots slot (suc count)) (length slots + count) ≡ slot + count
row_last slots slot count =
    ap (λ (n : ℕ). slice_index (with_row slots slot (suc count)) n) (sym (row_length slots slot count))
    ∙ get_or-append_seam (with_row slots slot count) (slot + count) [] 0

-- those of the row stand behind them
pub row_at : (slots : List ℕ) (slot count k : ℕ) → k < count
    → slice_index (with_row slots slot count) (length slots + k) ≡ slot + k
row_at slots slot zero k within = absurd (omega arith)
row_at slots slot (suc count) k within =
    elim (cases_lt k count) [
      | inl less ↦
          let all = row_length slots slot count in
          let before : length slots + k < length (with_row slots slot count) = omega (arith, all) in
          get_or-append (with_row slots slot count) ((slot + count) ∷ []) 0 (length slots + k) before
          ∙ row_at slots slot count k less
      | inr more ↦ let e : k ≡ count = omega arith in rw e (row_last slots slot count)
    ]

-- all are before the slot behind the row
pub row_below : (slots : List ℕ) (slot count : ℕ)
    → ((m : ℕ) → m < length slots → slice_index slots m < slot) → (m : ℕ)
    → m < length (with_row slots slot count) → slice_index (with_row slots slot count) m < slot + count
row_below slots slot count below m within =
    elim (cases_lt m (length slots)) [
      | inl less ↦ omega (arith, row_before slots slot count m less, below m less)
      | inr more ↦
          let e : length slots + (m - length slots) ≡ m = omega arith in
          omega (
            arith,
            ap (λ (n : ℕ). slice_index (with_row slots slot count) n) e,
            row_at slots slot count (m - length slots) (omega (arith, row_length slots slot count)),
            row_length slots slot count,
          )
    ]

-- slots rise with the row
pub row_rises : (slots : List ℕ) (slot count : ℕ) → IsStrictlyIncreasing slots
    → ((m : ℕ) → m < length slots → slice_index slots m < slot)
    → IsStrictlyIncreasing (with_row slots slot count)
row_rises slots slot zero rise below = rise
row_rises slots slot (suc count) rise below =
    let before = row_rises slots slot count rise below in
    rise-more (with_row slots slot count) (slot + count) before (row_below slots slot count below)
