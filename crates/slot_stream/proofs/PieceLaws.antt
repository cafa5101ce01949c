-- Units cut into pieces.
use Rattle.std.proofs.Common.{◌≡◌, ℕ, ◌+◌, ◌-◌, ◌<◌, ◌≤◌, List, [], ◌∷◌, ◌++◌, length, take, drop, map, min, ap, sym, ◌∙◌, ◌⊎◌, inl, inr, append_assoc, length-drop, arith}
use Rattle.std.proofs.lemmas.List.{take_all}
use Rattle.std.proofs.lemmas.List.FromFn.{map-range_with_len_more}
use Rattle.std.specs.List.{range_with_len}
use Rattle.slot_stream.specs.SlotStream.{Piece, piece_of}

pub at_most_or_above : (a b : ℕ) → (a ≤ b) ⊎ (b < a)
at_most_or_above a b = grind arith

-- up to 184 bytes from a place on, however few are left
pub chunk_is : (unit : List ℕ) (start end : ℕ) → start ≤ length unit → end ≡ min (start + 184) (length unit)
    → take (end - start) (drop start unit) ≡ take 184 (drop start unit)
chunk_is unit start end within is =
    let left : length (drop start unit) ≡ length unit - start = length-drop start unit in
    elim (at_most_or_above (start + 184) (length unit)) [
      | inl many ↦ let whole : end - start ≡ 184 = grind arith in ap (λ n. take n (drop start unit)) whole
      | inr few ↦
          let rest : end - start ≡ length unit - start = grind arith in
          take_all (end - start) (drop start unit) (omega arith) ∙ sym (take_all 184 (drop start unit) (omega arith))
    ]

-- one piece more
pub pieces-more : (unit : List ℕ) (before held now : List Piece) (piece : Piece) (number : ℕ)
    → held ≡ before ++ map (piece_of unit) (range_with_len 0 number) → now ≡ held ++ piece ∷ []
    → piece ≡ piece_of unit number → now ≡ before ++ map (piece_of unit) (range_with_len 0 (number + 1))
pieces-more unit before held now piece number told grown is =
    let so_far = map (piece_of unit) (range_with_len 0 number) in
    grown ∙ (ap (λ k. k ++ (piece ∷ [])) told ∙ (append_assoc before so_far (piece ∷ [])
    ∙ ap (λ k. before ++ k) (ap (λ p. so_far ++ p ∷ []) is
    ∙ sym (map-range_with_len_more (piece_of unit) 0 number number (omega arith)))))
