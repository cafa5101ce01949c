use Rattle.std.proofs.Common.{◌≡◌, ◌∙◌, inl, inr, ℕ, zero, suc, ◌+◌, ◌-◌, ◌*◌, ◌<◌, ◌≤◌, arith}
use Rattle.sub_base.specs.declared.depth.Depth.{Depth}
use Rattle.sub_base.specs.declared.depth.Depth.TheVariants.{Two, Four, Eight}
use Rattle.sub_base.specs.Depth.{bits_of, code_count}
use Rattle.string_painting.specs.Codes.{codes_in_byte, code_in}
use Rattle.pixel_store.specs.Private.Painting.{ones_of, splice, PaintsByte}
use Rattle.pixel_store.proofs.Fields.{above_same, below_same, between_new}

-- each code of a byte of equal codes
pub each_digit : (depth : Depth) (j code : ℕ) → j < codes_in_byte depth → code < code_count depth
    → code_in depth j (code * ones_of depth) ≡ code
each_digit Two zero code j_small small = omega arith
each_digit Two (suc zero) code j_small small = omega arith
each_digit Two (suc (suc zero)) code j_small small = omega arith
each_digit Two (suc (suc (suc zero))) code j_small small = omega arith
each_digit Two (suc (suc (suc (suc j)))) code j_small small = absurd (omega arith)
each_digit Four zero code j_small small = omega arith
each_digit Four (suc zero) code j_small small = omega arith
each_digit Four (suc (suc j)) code j_small small = absurd (omega arith)
each_digit Eight zero code j_small small = omega arith
each_digit Eight (suc j) code j_small small = absurd (omega arith)

-- a byte with some codes painted
pub paints_byte : (depth : Depth) (from to code b : ℕ) → from ≤ to → to ≤ codes_in_byte depth
    → code < code_count depth →
    PaintsByte depth from to code b
    (splice (8 - bits_of depth * from) (8 - bits_of depth * to) (code * ones_of depth) b)
paints_byte depth from to code b order short small = record {
  covered = λ j after before.
      between_new (bits_of depth) (8 - bits_of depth * (j + 1)) (8 - bits_of depth * from) (8 - bits_of depth * to)
      (code * ones_of depth) b
      (low_end depth from to j order short after before) (high_end depth from to j order short after before)
      ∙ each_digit depth j code (omega (arith, before, short)) small;
  outside = λ j within where_it_is. elim where_it_is [
    | inl before ↦ above_same (bits_of depth) (8 - bits_of depth * (j + 1)) (8 - bits_of depth * from)
        (8 - bits_of depth * to) (code * ones_of depth) b
        (ends depth from to order short) (is_above depth from j within before)
    | inr after ↦ below_same (bits_of depth) (8 - bits_of depth * (j + 1)) (8 - bits_of depth * from)
        (8 - bits_of depth * to) (code * ones_of depth) b
        (ends depth from to order short) (is_below depth to j within after)
  ];
} where
  low_end : (depth : Depth) (from to j : ℕ) → from ≤ to → to ≤ codes_in_byte depth → from ≤ j → j < to
      → 8 - bits_of depth * to ≤ 8 - bits_of depth * (j + 1)
  low_end Two from to j order short after before = omega arith
  low_end Four from to j order short after before = omega arith
  low_end Eight from to j order short after before = omega arith

  high_end : (depth : Depth) (from to j : ℕ) → from ≤ to → to ≤ codes_in_byte depth → from ≤ j
      → j < to → 8 - bits_of depth * (j + 1) + bits_of depth ≤ 8 - bits_of depth * from
  high_end Two from to j order short after before = omega arith
  high_end Four from to j order short after before = omega arith
  high_end Eight from to j order short after before = omega arith

  ends : (depth : Depth) (from to : ℕ) → from ≤ to → to ≤ codes_in_byte depth
      → 8 - bits_of depth * to ≤ 8 - bits_of depth * from
  ends Two from to order short = omega arith
  ends Four from to order short = omega arith
  ends Eight from to order short = omega arith

  is_above : (depth : Depth) (from j : ℕ) → j < codes_in_byte depth → j < from
      → 8 - bits_of depth * from ≤ 8 - bits_of depth * (j + 1)
  is_above Two from j within before = omega arith
  is_above Four from j within before = omega arith
  is_above Eight from j within before = omega arith

  is_below : (depth : Depth) (to j : ℕ) → j < codes_in_byte depth → to ≤ j
      → 8 - bits_of depth * (j + 1) + bits_of depth ≤ 8 - bits_of depth * to
  is_below Two to j within after = omega arith
  is_below Four to j within after = omega arith
  is_below Eight to j within after = omega arith
