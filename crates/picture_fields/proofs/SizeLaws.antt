-- How many bytes the blocks of a picture's fields have, row by row, without their bytes.
use Rattle.std.proofs.Common.{◌≡◌, ℕ, suc, ◌+◌, ◌*◌, ◌<◌, ◌≤◌, List, [], ◌∷◌, length, refl, sym, ap, subst, ◌∙◌, arith}
use Rattle.std.proofs.lemmas.List.Elements.{All-head, All-tail}
use Rattle.sub_base.specs.declared.depth.Depth.{Depth}
use Rattle.stream_syntax.specs.PixelCodes.{IsRowSize}
use Rattle.stream_syntax.specs.FieldBlocks.{identity_table, AreRowSizes, IsFieldSize}
use Rattle.picture_fields.specs.Private.Rows.{IsRowOf, AreRows, room_of}

-- the rows so far, with one more
pub rows_more : (depth : Depth) (left next rows : List (List ℕ)) (row : List ℕ) (size here : ℕ)
    → AreRows depth left → left ≡ row ∷ next → IsRowSize depth row here → here ≤ 2 * length row + 3
    → size + 131075 * length left ≤ 131075 * length rows
    → ((rest : ℕ) → AreRowSizes depth left rest → AreRowSizes depth rows (size + rest))
    → AreRows depth next × (size + (2 + here) + 131075 * length next ≤ 131075 * length rows)
    × ((rest : ℕ) → AreRowSizes depth next rest → AreRowSizes depth rows (size + (2 + here) + rest))
rows_more depth left next rows row size here are e sized short few sum =
    let rest : AreRows depth (row ∷ next) = subst (AreRows depth) e are in
    let wide = (All-head (IsRowOf depth) row next rest).short in
    let count : length left ≡ suc (length next) = ap length e in (
      All-tail (IsRowOf depth) row next rest,
      omega (arith, wide, count, short, few),
      λ more s. let g : size + (2 + here + more) ≡ size + (2 + here) + more = omega arith in
          subst (AreRowSizes depth rows) g
          (sum (2 + here + more)
          (subst (λ (t : List (List ℕ)). AreRowSizes depth t (2 + here + more)) (sym e)
          (here, more, sized, s, refl))),
    )

-- they have no more bytes than there is room for
pub room_more : (left next : List (List ℕ)) (row : List ℕ) (size here room : ℕ) → left ≡ row ∷ next
    → here ≤ 2 * length row + 3 → size + room_of left ≤ room → size + (2 + here) + room_of next ≤ room
room_more left next row size here room e short fits = omega (arith, ap room_of e, short, fits)

pub rows_all : (depth : Depth) (left rows : List (List ℕ)) (size : ℕ) → left ≡ []
    → ((rest : ℕ) → AreRowSizes depth left rest → AreRowSizes depth rows (size + rest))
    → AreRowSizes depth rows size
rows_all depth left rows size e sum =
    let g : size + 0 ≡ size = omega arith in
    subst (AreRowSizes depth rows) g (sum 0 (subst (λ (t : List (List ℕ)). AreRowSizes depth t 0) (sym e) refl))

pub field_sized : (depth region : Depth) (rows : List (List ℕ)) (sum table size : ℕ) → 0 < length rows
    → AreRowSizes depth rows sum → table ≡ length (identity_table depth region) → size ≡ table + sum
    → IsFieldSize depth region rows size
field_sized depth region [] sum table size h s t e = absurd (omega arith)
field_sized depth region (row ∷ rows) sum table size h s t e = (sum, s, e ∙ ap (λ (n : ℕ). n + sum) t)
