-- Blocks of fields, row by row, and their sizes.
use Rattle.std.proofs.Common.{eqb, ◌≡◌, ℕ, suc, ◌+◌, ◌-◌, ◌*◌, ◌<◌, ◌≤◌, List, [], ◌∷◌, ◌++◌, length, refl, sym, ap, subst, ◌∙◌, append_assoc, arith}
use Rattle.std.specs.Prelude.{Bool, true, false, All}
use Rattle.std.proofs.lemmas.Bool.{eqb-true, eqb-false}
use Rattle.std.proofs.lemmas.List.{length-append, append-nil, ext_get_or}
use Rattle.std.proofs.lemmas.List.Elements.{All-head, All-tail, All-weaker}
use Rattle.sub_base.specs.declared.depth.Depth.{Depth}
use Rattle.sub_base.specs.declared.depth.Depth.TheVariants.{Two, Four, Eight}
use Rattle.sub_base.specs.Picture.{Picture, IsPicture, IsRow, row_of, every_second_row, top_field, bottom_field, HasEqualFields}
use Rattle.sub_base.proofs.PictureLaws.{length-every_second_row, get_or-every_second_row, All-every_second_row}
use Rattle.stream_syntax.specs.PixelBlocks.{line_end_type}
use Rattle.stream_syntax.specs.FieldBlocks.{identity_table, IsRowBlock, AreRowBlocks, IsFieldBlock, AreFieldBlocks, AreRowSizes, IsFieldSize, AreFieldSizes}
use Rattle.pixel_codes.proofs.RowStrings.{row_size}
use Rattle.pixel_codes.proofs.Sizes.{one_row_size}
use Rattle.pixel_codes.specs.Lists.{Extends}
use Rattle.picture_fields.specs.Private.Rows.{IsRowOf, AreRows, room_of}

-- ---- a field, row by row

-- the block of a field as far as rows are written, and those that are left
abbrev pub Written : Depth → Depth → List ℕ → List ℕ → List (List ℕ) → List (List ℕ) → Type 0
Written depth region old out left rows = (text : List ℕ) × (out ≡ (old ++ identity_table depth region) ++ text)
    × AreRows depth left × (2 * length text + 196615 * length left ≤ 196615 * length rows)
    × ((more : List ℕ) → AreRowBlocks depth left more → AreRowBlocks depth rows (text ++ more))

pub written_none : (depth region : Depth) (old out : List ℕ) (rows : List (List ℕ))
    → out ≡ old ++ identity_table depth region → AreRows depth rows → Written depth region old out rows rows
written_none depth region old out rows e h =
    ([], e ∙ sym (append-nil (old ++ identity_table depth region)), h, omega arith, λ more b. b)

pub written_more : (depth region : Depth) (old out new : List ℕ) (left next rows : List (List ℕ)) (row : List ℕ)
    → Written depth region old out left rows → left ≡ row ∷ next →
    (bytes : List ℕ) × (new ≡ out ++ bytes) × (2 * length bytes ≤ 3 * length row + 10)
    × IsRowBlock depth row bytes → Written depth region old new next rows
written_more depth region old out new left next rows row w e b =
    let rest : AreRows depth (row ∷ next) = subst (AreRows depth) e w.2 in
    let short = (All-head (IsRowOf depth) row next rest).short in
    let count : length left ≡ suc (length next) = ap length e in (
      w.0 ++ b.0,
      b.1 ∙ ap (λ (t : List ℕ). t ++ b.0) w.1 ∙ append_assoc (old ++ identity_table depth region) w.0 b.0,
      All-tail (IsRowOf depth) row next rest,
      omega (arith, length-append w.0 b.0, w.3, b.2, short, count),
      λ more m. subst (AreRowBlocks depth rows) (sym (append_assoc w.0 b.0 more))
          (w.4 (b.0 ++ more)
          (subst (λ (t : List (List ℕ)). AreRowBlocks depth t (b.0 ++ more)) (sym e) (b.0, more, refl, b.3, m))),
    )

field_of : (depth region : Depth) (rows : List (List ℕ)) (text : List ℕ) → 0 < length rows
    → AreRowBlocks depth rows text → IsFieldBlock depth region rows (identity_table depth region ++ text)
field_of depth region [] text h b = absurd (omega arith)
field_of depth region (row ∷ rows) text h b = (text, b, refl)

pub few_table : (depth region : Depth) → length (identity_table depth region) ≤ 17
few_table Two Two = omega arith
few_table Two Four = omega arith
few_table Two Eight = omega arith
few_table Four Two = omega arith
few_table Four Four = omega arith
few_table Four Eight = omega arith
few_table Eight Two = omega arith
few_table Eight Four = omega arith
few_table Eight Eight = omega arith

pub written_all : (depth region : Depth) (old out : List ℕ) (left rows : List (List ℕ))
    → Written depth region old out left rows → left ≡ [] → 0 < length rows → length rows ≤ 32768 →
    (bytes : List ℕ) × (out ≡ old ++ bytes) × (length bytes < 4294967296) × IsFieldBlock depth region rows bytes
written_all depth region old out left rows w e some few =
    let whole : AreRowBlocks depth rows w.0 =
    subst (AreRowBlocks depth rows) (append-nil w.0)
    (w.4 [] (subst (λ (t : List (List ℕ)). AreRowBlocks depth t []) (sym e) refl)) in (
      identity_table depth region ++ w.0,
      w.1 ∙ append_assoc old (identity_table depth region) w.0,
      omega (arith, length-append (identity_table depth region) w.0, few_table depth region, w.3, few),
      field_of depth region rows w.0 some whole,
    )

pub written_extends : (depth region : Depth) (old out : List ℕ) (left rows : List (List ℕ))
    → Written depth region old out left rows → Extends old out
written_extends depth region old out left rows w =
    (identity_table depth region ++ w.0, w.1 ∙ append_assoc old (identity_table depth region) w.0)

-- ---- the rows of a picture's fields

pub few_rows : (picture : Picture) → IsPicture picture → (first : ℕ)
    → length (every_second_row picture first) ≤ 32768
few_rows picture p first = omega (arith, length-every_second_row picture first, p.high)

pub some_rows : (picture : Picture) → IsPicture picture → (first : ℕ) → first < picture.height
    → 0 < length (every_second_row picture first)
some_rows picture p first h = omega (arith, length-every_second_row picture first, h)

pub rows_are : (picture : Picture) → IsPicture picture → (rows : List (List ℕ)) → All (IsRow picture) rows
    → AreRows picture.depth rows
rows_are picture p rows h =
    All-weaker (IsRow picture) (IsRowOf picture.depth)
    (λ row r. record { short = omega (arith, r.whole, p.wide); each = r.each }) rows h

pub same_fields : (picture : Picture) → HasEqualFields picture → top_field picture ≡ bottom_field picture
same_fields picture h =
    let top = length-every_second_row picture 0 in
    let bottom = length-every_second_row picture 1 in
    ext_get_or [] (top_field picture) (bottom_field picture) (omega (arith, top, bottom, h.even)) λ i l.
    let in_top : 0 + 2 * i < picture.height = omega (arith, top, l) in
    let in_bottom : 1 + 2 * i < picture.height = omega (arith, top, l, h.even) in
    let e : 0 + 2 * i ≡ 2 * i = omega arith in
    let f : 2 * i + 1 ≡ 1 + 2 * i = omega arith in
    get_or-every_second_row picture 0 i [] in_top ∙ ap (row_of picture) e ∙ h.same i (omega arith)
    ∙ ap (row_of picture) f ∙ sym (get_or-every_second_row picture 1 i [] in_bottom)

-- ---- sizes

row_sizes : (depth : Depth) (rows : List (List ℕ)) (text : List ℕ) → AreRowBlocks depth rows text
    → AreRowSizes depth rows (length text)
row_sizes depth [] text b = ap length b
row_sizes depth (row ∷ rows) text b =
    let r = b.3 in
    let size : length b.0 ≡ 2 + length r.0 =
    ap length r.2 ∙ omega (arith, length-append r.0 (line_end_type ∷ [])) in (
      length r.0,
      length b.1,
      row_size depth row r.0 r.1,
      row_sizes depth rows b.1 b.4,
      ap length b.2
          ∙ length-append b.0 b.1 ∙ ap (λ (n : ℕ). n + length b.1) size,
    )

pub field_size : (depth region : Depth) (rows : List (List ℕ)) (bytes : List ℕ)
    → IsFieldBlock depth region rows bytes → IsFieldSize depth region rows (length bytes)
field_size depth region [] bytes b = ap length b
field_size depth region (row ∷ rows) bytes b = (
  length b.0,
  row_sizes depth (row ∷ rows) b.0 b.1,
  ap length b.2
      ∙ length-append (identity_table depth region) b.0,
)

-- ---- both fields

-- the blocks of a picture's fields, with the lengths of what was there before them, before the bottom one and after it
abbrev pub Both : Picture → Depth → List ℕ → List ℕ → ℕ → ℕ → Type 0
Both picture region old new top_length bottom_length = (top : List ℕ) × (bottom : List ℕ)
    × (new ≡ old ++ (top ++ bottom)) × (top_length ≡ length top) × (bottom_length ≡ length bottom)
    × AreFieldBlocks picture region top bottom

pub both_own : (picture : Picture) (region : Depth) (old middle new top bottom : List ℕ) (start half whole : ℕ)
    → (HasEqualFields picture → ⊥) → start ≡ length old → half ≡ length middle
    → whole ≡ length new →
    middle ≡ old ++ top → IsFieldBlock picture.depth region (top_field picture) top → new ≡ middle ++ bottom
    → IsFieldBlock picture.depth region (bottom_field picture) bottom
    → Both picture region old new (half - start) (whole - half)
both_own picture region old middle new top bottom start half whole apart s h w m t n b = (
  top,
  bottom,
  n ∙ ap (λ (x : List ℕ). x ++ bottom) m ∙ append_assoc old top bottom,
  omega (arith, s, h, ap length m, length-append old top),
  omega (arith, h, w, ap length n, length-append middle bottom),
  record { top_block = t; shared = λ e. absurd (apart e); own = λ _. b },
)

pub both_shared : (picture : Picture) (region : Depth) (old middle new top : List ℕ) (start half whole : ℕ)
    → HasEqualFields picture → start ≡ length old → half ≡ length middle → whole ≡ length new →
    middle ≡ old ++ top → IsFieldBlock picture.depth region (top_field picture) top → new ≡ middle
    → Both picture region old new (half - start) (whole - half)
both_shared picture region old middle new top start half whole same s h w m t n = (
  top,
  [],
  n ∙ m ∙ ap (λ (x : List ℕ). old ++ x) (sym (append-nil top)),
  omega (arith, s, h, ap length m, length-append old top),
  omega (arith, h, w, ap length n),
  record { top_block = t; shared = λ _. refl; own = λ other. absurd (other same) },
)

pub both_extends : (picture : Picture) (region : Depth) (old new : List ℕ) (a b : ℕ)
    → Both picture region old new a b → Extends old new
both_extends picture region old new a b h = (h.0 ++ h.1, h.2)

pub both_sizes : (picture : Picture) (region : Depth) (old new : List ℕ) (a b : ℕ)
    → Both picture region old new a b → AreFieldSizes picture region a b
both_sizes picture region old new a b h = record {
  top_size =
      subst (IsFieldSize picture.depth region (top_field picture)) (sym h.3)
      (field_size picture.depth region (top_field picture) h.0 h.5.top_block);
  shared = λ e. h.4 ∙ ap length (h.5.shared e);
  own =
      λ e. subst (IsFieldSize picture.depth region (bottom_field picture)) (sym h.4)
      (field_size picture.depth region (bottom_field picture) h.1 (h.5.own e));
}

pub top_of : (picture : Picture) (region depth : Depth) (rows : List (List ℕ)) (bytes : List ℕ)
    → depth ≡ picture.depth → rows ≡ top_field picture → IsFieldBlock depth region rows bytes
    → IsFieldBlock picture.depth region (top_field picture) bytes
top_of picture region depth rows bytes d r b =
    subst (λ (x : Depth). IsFieldBlock x region (top_field picture) bytes) d
    (subst (λ (x : List (List ℕ)). IsFieldBlock depth region x bytes) r b)

-- ---- how much room the blocks of a picture want

-- rows of one width
room_all : (width : ℕ) (rows : List (List ℕ)) → All (λ row. length row ≡ width) rows
    → room_of rows ≡ length rows * (3 * width + 10)
room_all width [] h = grind arith
room_all width (row ∷ rows) h =
    let first = All-head (λ (r : List ℕ). length r ≡ width) row rows h in
    let rest = room_all width rows (All-tail (λ (r : List ℕ). length r ≡ width) row rows h) in
    grind arith

shared_out : (a b whole share : ℕ) → a + b ≡ whole → a * share + b * share ≡ whole * share
shared_out a b whole share e = rw (← e) (grind arith)

-- the rows of both fields are those of the picture
pub room_fields : (picture : Picture) → IsPicture picture
    → room_of (top_field picture) + room_of (bottom_field picture) ≡ picture.height * (3 * picture.width + 10)
room_fields picture p =
    let room =
    λ (first : ℕ). room_all picture.width (every_second_row picture first)
    (All-weaker (IsRow picture) (λ row. length row ≡ picture.width) (λ row r. r.whole) _
    (All-every_second_row picture p first)) in
    let top = room 0 in
    let bottom = room 1 in
    let rows : length (top_field picture) + length (bottom_field picture) ≡ picture.height =
    omega (arith, length-every_second_row picture 0, length-every_second_row picture 1) in
    omega (
      arith,
      top,
      bottom,
      shared_out (length (top_field picture)) (length (bottom_field picture)) picture.height
          (3 * picture.width + 10) rows,
    )

-- ---- sizes are one number

one_row_sum : (depth : Depth) (rows : List (List ℕ)) (sum other : ℕ) → AreRowSizes depth rows sum
    → AreRowSizes depth rows other → sum ≡ other
one_row_sum depth [] sum other p q = p ∙ sym q
one_row_sum depth (row ∷ rows) sum other p q =
    omega (arith, p.4, q.4, one_row_size depth row p.0 q.0 p.2 q.2, one_row_sum depth rows p.1 q.1 p.3 q.3)

one_field_size : (depth region : Depth) (rows : List (List ℕ)) (size other : ℕ)
    → IsFieldSize depth region rows size → IsFieldSize depth region rows other → size ≡ other
one_field_size depth region [] size other p q = p ∙ sym q
one_field_size depth region (row ∷ rows) size other p q =
    omega (arith, p.2, q.2, one_row_sum depth (row ∷ rows) p.0 q.0 p.1 q.1)

-- the sizes that the blocks of a picture's fields have are the only ones
pub one_sizes : (picture : Picture) (region : Depth) (a b c d : ℕ) → AreFieldSizes picture region a b
    → AreFieldSizes picture region c d → (a ≡ c) × (b ≡ d)
one_sizes picture region a b c d p q =
    (one_field_size picture.depth region (top_field picture) a c p.top_size q.top_size, by (eqb b d) refl)
  where
    by : (t : Bool) → eqb b d ≡ t → b ≡ d
    by true e = eqb-true b d e
    by false e =
        let other = eqb-false b d e in
        let apart : HasEqualFields picture → ⊥ = λ f. other (p.shared f ∙ sym (q.shared f)) in
        absurd (other (one_field_size picture.depth region (bottom_field picture) b d (p.own apart) (q.own apart)))
