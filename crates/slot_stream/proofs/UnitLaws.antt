-- Units that stand one after the other, and their pieces.
use Rattle.std.proofs.Common.{◌≡◌, ◌∙◌, refl, sym, ap, subst, ℕ, List, [], ◌∷◌, ◌++◌, length, get_or, take, drop, map, append_assoc}
use Rattle.std.specs.List.{concat}
use Rattle.std.proofs.Math.Seq.{take-append_seam, drop-append_seam}
use Rattle.slot_stream.specs.SlotStream.{Piece, all_pieces, pieces_of}
use Rattle.slot_stream.specs.UnitBytes.{AreUnitsOf}

-- the first unit, and those behind it
pub record IsFirstUnit (lengths bytes : List ℕ) (size : ℕ) (units : List (List ℕ)) : Type 0 where
  pub unit : List ℕ
  pub rest : List (List ℕ)
  pub are : units ≡ unit ∷ rest
  pub size_is : size ≡ length unit
  pub whole : bytes ≡ unit ++ concat rest
  pub behind : AreUnitsOf lengths (concat rest) rest

pub first_unit : (lengths bytes : List ℕ) (size : ℕ) (units : List (List ℕ))
    → AreUnitsOf (size ∷ lengths) bytes units
    → IsFirstUnit lengths bytes size units
first_unit lengths bytes size [] u = absurd (let e : [] ≡ size ∷ lengths = u.sized in cc)
first_unit lengths bytes size (unit ∷ rest) u = record {
  unit = unit;
  rest = rest;
  are = refl;
  size_is = sym (ap (λ xs. get_or xs 0 0) u.sized);
  whole = sym u.whole;
  behind = record { whole = refl; sized = ap (drop 1) u.sized };
}

pub no_unit : (bytes : List ℕ) (units : List (List ℕ)) → AreUnitsOf [] bytes units → units ≡ []
no_unit bytes [] u = refl
no_unit bytes (unit ∷ rest) u = absurd (let e : length unit ∷ map length rest ≡ [] = u.sized in cc)

-- what stands once the pieces of the first unit are put behind: the others are left, and all pieces are as before
pub next_unit : (lengths left unit behind : List ℕ) (size : ℕ) (units : List (List ℕ))
    (start held now : List Piece)
    → AreUnitsOf (size ∷ lengths) left units → unit ≡ take size left → behind ≡ drop size left
    → now ≡ held ++ pieces_of unit → start ≡ held ++ all_pieces units
    → (rest : List (List ℕ)) × AreUnitsOf lengths behind rest × (start ≡ now ++ all_pieces rest)
next_unit lengths left unit behind size units start held now u is_unit is_behind put so_far =
    let first = first_unit lengths left size units u in
    let unit_is : unit ≡ first.unit = is_unit ∙ ap (λ (k : ℕ). take k left) first.size_is
    ∙ ap (take (length first.unit)) first.whole ∙ take-append_seam first.unit (concat first.rest) in
    let behind_is : behind ≡ concat first.rest = is_behind ∙ ap (λ (k : ℕ). drop k left) first.size_is
    ∙ ap (drop (length first.unit)) first.whole ∙ drop-append_seam first.unit (concat first.rest) in
    let others = all_pieces first.rest in (
      first.rest,
      subst (λ (bytes : List ℕ). AreUnitsOf lengths bytes first.rest) (sym behind_is) first.behind,
      so_far ∙ ap (λ (us : List (List ℕ)). held ++ all_pieces us) first.are
          ∙ sym (append_assoc held (pieces_of first.unit) others)
          ∙ ap (λ (ps : List Piece). ps
          ++ others) (sym (put ∙ ap (λ (bytes : List ℕ). held ++ pieces_of bytes) unit_is)),
    )
