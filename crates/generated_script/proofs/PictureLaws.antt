-- The generated pictures are pictures.
use Rattle.std.proofs.Common.{◌≡◌, ◌∙◌, ℕ, ◌+◌, ◌*◌, ◌/◌, ◌%◌, ◌<◌, List, [], ◌∷◌, length, get_or, replicate, All, arith}
use Rattle.std.specs.List.{range_with_len, flat_map}
use Rattle.std.proofs.lemmas.List.{length-replicate}
use Rattle.std.proofs.lemmas.List.Concat.{length-flat_map}
use Rattle.std.proofs.lemmas.List.Elements.{All-replicate}
use Rattle.std.proofs.lemmas.List.Sums.{sum_by-cons}
use Rattle.sub_base.specs.Picture.{IsPicture}
use Rattle.generated_script.specs.Generated.{generated_row, generated_picture}
use Rattle.generated_script.proofs.ListLaws.{all_pieces}

-- pieces that are equally long
pub equal_pieces : {X Y : Type 0} (f : X → List Y) (n : ℕ) → ((x : X) → length (f x) ≡ n) → (xs : List X)
    → length (flat_map f xs) ≡ length xs * n
equal_pieces f n each [] = omega arith
equal_pieces f n each (x ∷ xs) =
    let first = each x in
    let rest = equal_pieces f n each xs in
    let sum = length-flat_map f (x ∷ xs) ∙ sum_by-cons (λ y. length (f y)) x xs in
    let others = length-flat_map f xs in
    omega arith

pub row_length : (k y : ℕ) → length (generated_row k y) ≡ 64
row_length k y =
    equal_pieces (λ run. replicate 8 ((run + y / 3 + k) % 16)) 8 (λ run. length-replicate 8 ((run + y / 3 + k) % 16))
    (range_with_len 0 8)

pub row_codes : (k y : ℕ) → All (λ code. code < 16) (generated_row k y)
row_codes k y =
    all_pieces (λ code. code < 16) (λ run. replicate 8 ((run + y / 3 + k) % 16)) (range_with_len 0 8)
    (λ i d h. All-replicate (λ code. code < 16) 8 ((get_or (range_with_len 0 8) i d + y / 3 + k) % 16) (omega arith))

pub picture_made : (k : ℕ) → IsPicture (generated_picture k)
picture_made k = record {
  wide = (omega arith, omega arith);
  high = (omega arith, omega arith);
  full = equal_pieces (generated_row k) 64 (row_length k) (range_with_len 0 32);
  each =
      all_pieces (λ code. code < 16) (generated_row k) (range_with_len 0 32)
      (λ i d h. row_codes k (get_or (range_with_len 0 32) i d));
}
