use Rattle.std.proofs.Common.{◌≡◌, ◌∙◌, refl, sym, ap, subst, inl, inr, ℕ, ◌+◌, ◌-◌, ◌*◌, ◌/◌, ◌%◌, ◌<◌, ◌≤◌, ◌⊎◌, List, length, get_or, arith}
use Rattle.std.proofs.lemmas.Nat.{row_fits_turned}
use Rattle.std.proofs.lemmas.Bool.{cases_lt, cases_order}
use Rattle.sub_base.specs.declared.depth.Depth.{Depth}
use Rattle.sub_base.specs.declared.depth.Depth.TheVariants.{Two, Four, Eight}
use Rattle.pixel_store.specs.declared.extent.Extent.{Extent}
use Rattle.string_painting.specs.Codes.{codes_in_byte, code_in}
use Rattle.pixel_store.specs.Private.Extents.{stride_of, room_of, size_of, row_start, pixel, Fits}
use Rattle.pixel_store.specs.Private.Painting.{ones_of, code_number, Paints, PaintsRow, Fills}
use Rattle.sub_base.specs.Depth.{code_count, packed_length}
use Rattle.pixel_store.proofs.Bytes.{each_digit}

spot : (depth : Depth) (start x : ℕ)
    → code_number depth (start + x / codes_in_byte depth) (x % codes_in_byte depth)
    ≡ start * codes_in_byte depth + x
spot Two start x = omega arith
spot Four start x = omega arith
spot Eight start x = omega arith

pub in_byte : (depth : Depth) (x : ℕ) → x % codes_in_byte depth < codes_in_byte depth
in_byte Two x = omega arith
in_byte Four x = omega arith
in_byte Eight x = omega arith

in_stride : (depth : Depth) (x stride : ℕ) → x < stride * codes_in_byte depth → x / codes_in_byte depth < stride
in_stride Two x stride lt = omega arith
in_stride Four x stride lt = omega arith
in_stride Eight x stride lt = omega arith

enough : (depth : Depth) (width : ℕ) → width ≤ packed_length depth width * codes_in_byte depth
enough Two width = omega arith
enough Four width = omega arith
enough Eight width = omega arith

before_row : (depth : Depth) (i start from : ℕ) → i < start
    → i * codes_in_byte depth + codes_in_byte depth ≤ start * codes_in_byte depth + from
before_row Two i start from lt = omega arith
before_row Four i start from lt = omega arith
before_row Eight i start from lt = omega arith

behind_row : (depth : Depth) (i start stride to : ℕ) → start + stride ≤ i
    → to ≤ stride * codes_in_byte depth → start * codes_in_byte depth + to ≤ i * codes_in_byte depth
behind_row Two i start stride to le short = omega arith
behind_row Four i start stride to le short = omega arith
behind_row Eight i start stride to le short = omega arith

pub wide_enough : (extent : Extent) → extent.width ≤ room_of extent
wide_enough extent = enough extent.depth extent.width

pub column-below : (extent : Extent) (x : ℕ) → x < room_of extent
    → x / codes_in_byte extent.depth < stride_of extent
column-below extent x lt = in_stride extent.depth x (stride_of extent) lt

-- a row ends within the bytes
pub row_inside : (bytes : List ℕ) (extent : Extent) (y : ℕ) → Fits bytes extent → y < extent.height
    → row_start extent y + stride_of extent ≤ length bytes
row_inside bytes extent y fits lt =
    omega (arith, fits.inside, row_fits_turned y (stride_of extent) (stride_of extent) extent.height lt (omega arith))

pub byte_inside : (bytes : List ℕ) (extent : Extent) (x y : ℕ) → Fits bytes extent → x < room_of extent
    → y < extent.height →
    row_start extent y + x / codes_in_byte extent.depth < length bytes
byte_inside bytes extent x y fits column row =
    omega (arith, row_inside bytes extent y fits row, column-below extent x column)

pub PaintsRow-from : (extent : Extent) (y from to code : ℕ) (xs ys : List ℕ) → Fits xs extent
    → y < extent.height → to ≤ room_of extent →
    Paints extent.depth (row_start extent y * codes_in_byte extent.depth + from)
    (row_start extent y * codes_in_byte extent.depth + to) code xs ys →
    PaintsRow extent y from to code xs ys
PaintsRow-from extent y from to code xs ys fits row short p = record {
  covered = λ x after before.
      let at = spot extent.depth (row_start extent y) x in
      p.covered (row_start extent y + x / codes_in_byte extent.depth) (x % codes_in_byte extent.depth)
      (byte_inside xs extent x y fits (omega (arith, before, short)) row) (in_byte extent.depth x)
      (omega (arith, at, after)) (omega (arith, at, before));
  beside = λ x column where_it_is.
      let at = spot extent.depth (row_start extent y) x in
      p.outside (row_start extent y + x / codes_in_byte extent.depth) (x % codes_in_byte extent.depth)
      (byte_inside xs extent x y fits column row) (in_byte extent.depth x)
      (elim where_it_is [ inl l ↦ inl (omega (arith, at, l)) | inr r ↦ inr (omega (arith, at, r)) ]);
  untouched = λ i where_it_is. p.untouched i (elim where_it_is [
    | inl l ↦ inl (before_row extent.depth i (row_start extent y) from l)
    | inr r ↦ inr (behind_row extent.depth i (row_start extent y) (stride_of extent) to r short)
  ]);
}

-- an earlier row ends before a later one begins
row_before : (stride row later : ℕ) → row < later → row * stride + stride ≤ later * stride
row_before stride row later lt =
    let gap = later - (row + 1) in
    let split : row + 1 + gap ≡ later = omega arith in
    subst (λ (n : ℕ). row * stride + stride ≤ n * stride) split (grind arith)

-- what changes bytes of one row leaves the other rows
pub other_row : (extent : Extent) (y x row : ℕ) (xs ys : List ℕ)
    → ((i : ℕ) → (i < row_start extent y) ⊎ (row_start extent y + stride_of extent ≤ i)
    → get_or ys i 0 ≡ get_or xs i 0) → x < room_of extent →
    (row < y) ⊎ (y < row) → pixel ys extent x row ≡ pixel xs extent x row
other_row extent y x row xs ys untouched column where_it_is =
    ap (code_in extent.depth (x % codes_in_byte extent.depth))
    (untouched (row_start extent row + x / codes_in_byte extent.depth) (elim where_it_is [
      | inl above ↦ inl (omega (arith, column-below extent x column, row_before (stride_of extent) row y above))
      | inr under ↦ inr (omega (arith, row_before (stride_of extent) y row under))
    ]))

pub Fills-none : (extent : Extent) (code : ℕ) (xs : List ℕ) → Fills extent 0 code xs xs
Fills-none extent code xs = record {
  covered = λ x y column row. absurd (omega arith);
  beside = λ x y column right row. refl;
  below = λ x y column under row. refl;
  untouched = λ i where_it_is. refl;
}

pub Fills-more : (extent : Extent) (n code : ℕ) (xs ys zs : List ℕ) → n < extent.height
    → Fills extent n code xs ys →
    PaintsRow extent n 0 extent.width code ys zs → Fills extent (n + 1) code xs zs
Fills-more extent n code xs ys zs more f p = record {
  covered = λ x y column row. elim (cases_lt y n) [
    | inl above ↦ other_row extent n x y ys zs p.untouched (omega (arith, column, wide_enough extent))
        (inl above) ∙ f.covered x y column above
    | inr not_above ↦
        let same : n ≡ y = omega arith in
        subst (λ (k : ℕ). pixel zs extent x k ≡ code) same (p.covered x (omega arith) column)
  ];
  beside = λ x y column right row. elim (cases_order y n) [
    | inl same ↦
        subst (λ (k : ℕ). pixel zs extent x k ≡ pixel ys extent x k) (sym same) (p.beside x column (inr right))
        ∙ f.beside x y column right row
    | inr differ ↦ other_row extent n x y ys zs p.untouched column differ ∙ f.beside x y column right row
  ];
  below = λ x y column under row.
      other_row extent n x y ys zs p.untouched column (inr (omega arith))
      ∙ f.below x y column (omega arith) row;
  untouched = λ i where_it_is.
      p.untouched i (elim where_it_is [
        | inl l ↦ inl (omega (arith, l))
        | inr r ↦ inr
            (omega (arith, r, row_fits_turned n (stride_of extent) (stride_of extent) extent.height more (omega arith)))
      ]) ∙ f.untouched i where_it_is;
}

no_padding : (depth : Depth) (width : ℕ) → width % codes_in_byte depth ≡ 0
    → packed_length depth width * codes_in_byte depth ≡ width
no_padding Two width full = omega arith
no_padding Four width full = omega arith
no_padding Eight width full = omega arith

-- equal bytes fill all rows that have no bits behind their last pixels
pub Fills-whole : (extent : Extent) (code value : ℕ) (xs ys : List ℕ)
    → extent.width % codes_in_byte extent.depth ≡ 0 → code < code_count extent.depth →
    value ≡ code * ones_of extent.depth →
    ((i : ℕ) → extent.offset ≤ i → i < extent.offset + size_of extent → get_or ys i 0 ≡ value) →
    ((i : ℕ) → (i < extent.offset) ⊎ (extent.offset + size_of extent ≤ i)
    → get_or ys i 0 ≡ get_or xs i 0) →
    Fills extent extent.height code xs ys
Fills-whole extent code value xs ys full small is inside outside = record {
  covered = λ x y column row.
      let here : x < room_of extent = omega (arith, column, wide_enough extent) in
      ap (code_in extent.depth (x % codes_in_byte extent.depth))
      (inside (row_start extent y + x / codes_in_byte extent.depth) (omega arith)
      (omega (
        arith,
        column-below extent x here,
        row_fits_turned y (stride_of extent) (stride_of extent) extent.height
            row (omega arith),
      )) ∙ is)
      ∙ each_digit extent.depth (x % codes_in_byte extent.depth) code (in_byte extent.depth x) small;
  beside = λ x y column right row. absurd (omega (arith, column, right, no_padding extent.depth extent.width full));
  below = λ x y column under row. absurd (omega arith);
  untouched = outside;
}
