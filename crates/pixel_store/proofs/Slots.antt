use Rattle.std.proofs.Common.{◌≡◌, ◌∙◌, refl, sym, ap, subst, inl, inr, ℕ, zero, suc, ◌+◌, ◌-◌, ◌*◌, ◌/◌, ◌%◌, ◌<◌, ◌≤◌, ◌⊎◌, ◌≢◌, List, [], ◌∷◌, length, sum_by, map, get_or, take, drop, min, length-drop, length-take, arith}
use Rattle.std.proofs.lemmas.List.Sums.{sum_by-cons}
use Rattle.std.proofs.lemmas.Bool.{cases_eq, cases_lt, cases_order}
use Rattle.std.proofs.lemmas.Nat.{row_fits_turned}
use Rattle.std.proofs.lemmas.List.{get_or-map, get_or-take, get_or-drop, ext_get_or, length-map}
use Rattle.std.proofs.Math.ListN.{get_or-eq_default}
use Rattle.pixel_store.specs.declared.extent.Extent.{Extent}
use Rattle.sub_base.specs.declared.depth.Depth.TheVariants.{Two}
use Rattle.string_painting.specs.Codes.{codes_in_byte, code_in}
use Rattle.string_painting.specs.Painting.{code_after}
use Rattle.pixel_store.specs.Private.Extents.{stride_of, room_of, size_of, row_start, pixel, Fits}
use Rattle.pixel_store.specs.Private.Painting.{PaintsRow, KeepsRows, LaysRow, Fills}
use Rattle.pixel_store.specs.Regions.{StoredRegion, code_of, row_of, blank, region_at, KeepsOthers, IsRunPainted, IsStringPainted, IsFilled, IsPackedRow, need_in}
use Rattle.pixel_store.specs.Private.Stores.{region_in, regions_in, no_extent, extent_at, Adjoin, IsTidy, IsStore}
use Rattle.pixel_store.proofs.Rows.{row_inside, column-below, wide_enough, other_row}

Adjoin-le : (start : ℕ) (ps : List Extent) (end : ℕ) → Adjoin start ps end → start ≤ end
Adjoin-le start [] end adjoin = omega arith
Adjoin-le start (p ∷ ps) end adjoin = omega (arith, Adjoin-le (start + size_of p) ps end adjoin.1)

pub Adjoin-at : (start : ℕ) (ps : List Extent) (end k : ℕ) → Adjoin start ps end → k < length ps →
    (start ≤ (extent_at ps k).offset) × ((extent_at ps k).offset + size_of (extent_at ps k) ≤ end)
Adjoin-at start [] end k adjoin short = absurd (omega arith)
Adjoin-at start (p ∷ ps) end zero adjoin short =
    (omega (arith, adjoin.0), omega (arith, adjoin.0, Adjoin-le (start + size_of p) ps end adjoin.1))
Adjoin-at start (p ∷ ps) end (suc k) adjoin short =
    let r = Adjoin-at (start + size_of p) ps end k adjoin.1 (omega arith) in (omega (arith, r.0), r.1)

Adjoin-before : (start : ℕ) (ps : List Extent) (end k l : ℕ) → Adjoin start ps end → k < l → l < length ps →
    (extent_at ps k).offset + size_of (extent_at ps k) ≤ (extent_at ps l).offset
Adjoin-before start [] end k l adjoin order short = absurd (omega arith)
Adjoin-before start (p ∷ ps) end k zero adjoin order short = absurd (omega arith)
Adjoin-before start (p ∷ ps) end zero (suc l) adjoin order short =
    let r = Adjoin-at (start + size_of p) ps end l adjoin.1 (omega arith) in omega (arith, r.0, adjoin.0)
Adjoin-before start (p ∷ ps) end (suc k) (suc l) adjoin order short =
    Adjoin-before (start + size_of p) ps end k l adjoin.1 (omega arith) (omega arith)

pub slot_fits : (bytes : List ℕ) (used : ℕ) (extents : List Extent) (k : ℕ) → IsStore bytes used extents
    → k < length extents → Fits bytes (extent_at extents k)
slot_fits bytes used extents k is short =
    let r = Adjoin-at 0 extents used k is.adjoin short in
    record { inside = omega (arith, r.1, is.within); short = is.short }

pub region_at_is : (bytes : List ℕ) (used : ℕ) (extents : List Extent) (k : ℕ) → k < length extents →
    region_at (regions_in bytes used extents) k ≡ region_in bytes (extent_at extents k)
region_at_is bytes used extents k short = get_or-map (region_in bytes) extents k no_extent (blank 0 0 Two) short

pub window_at : (xs : List ℕ) (o n i : ℕ) → i < n
    → get_or (take (o + n - o) (drop o xs)) i 0 ≡ get_or xs (o + i) 0
window_at xs o n i short =
    let here : i < o + n - o = omega arith in
    get_or-take (o + n - o) (drop o xs) i 0 here ∙ get_or-drop o xs i 0

pub code_of-region : (bytes : List ℕ) (p : Extent) (x y : ℕ) → x < room_of p → y < p.height
    → code_of (region_in bytes p) x y ≡ pixel bytes p x y
code_of-region bytes p x y column row =
    let place : y * stride_of p + x / codes_in_byte p.depth < size_of p =
    omega (arith, column-below p x column, row_fits_turned y (stride_of p) (stride_of p) p.height row (omega arith)) in
    let here : p.offset + (y * stride_of p + x / codes_in_byte p.depth) ≡ row_start p y + x / codes_in_byte p.depth =
    omega arith in
    ap (code_in p.depth (x % codes_in_byte p.depth))
    (window_at (region_in bytes p).bytes (y * stride_of p) (stride_of p) (x / codes_in_byte p.depth)
    (column-below p x column)
    ∙ window_at bytes p.offset (size_of p) (y * stride_of p + x / codes_in_byte p.depth) place
    ∙ ap (λ (i : ℕ). get_or bytes i 0) here)

windows : (xs ys : List ℕ) (o n p m : ℕ) → n ≤ length xs - o → m ≤ length ys - p → n ≡ m →
    ((i : ℕ) → i < n → get_or xs (o + i) 0 ≡ get_or ys (p + i) 0) → take n (drop o xs) ≡ take m (drop p ys)
windows xs ys o n p m short short' nm each =
    ext_get_or 0 (take n (drop o xs)) (take m (drop p ys))
    (omega (arith, length-take n (drop o xs), length-take m (drop p ys), length-drop o xs, length-drop p ys))
    (λ i within.
    let i_n : i < n = omega (arith, within, length-take n (drop o xs)) in
    get_or-take n (drop o xs) i 0 i_n ∙ get_or-drop o xs i 0 ∙ each i i_n ∙ sym (get_or-drop p ys i 0)
    ∙ sym (get_or-take m (drop p ys) i 0 (omega arith)))

pub row_of-region : (bytes : List ℕ) (p : Extent) (y : ℕ) → Fits bytes p → y < p.height →
    row_of (region_in bytes p) y ≡ take (row_start p y + stride_of p - row_start p y) (drop (row_start p y) bytes)
row_of-region bytes p y fits row =
    let s = stride_of p in
    let inner = take (p.offset + size_of p - p.offset) (drop p.offset bytes) in
    let ends : y * s + s ≤ size_of p = row_fits_turned y s s p.height row (omega arith) in
    let long : length inner ≡ size_of p =
    omega (
      arith,
      length-take (p.offset + size_of p - p.offset) (drop p.offset bytes),
      length-drop p.offset
          bytes,
      fits.inside,
    ) in
    windows inner bytes (y * s) (y * s + s - y * s) (row_start p y) (row_start p y + s - row_start p y)
    (omega (arith, long, ends)) (omega (arith, row_inside bytes p y fits row)) (omega arith)
    (λ i short.
    let here : p.offset + (y * s + i) ≡ row_start p y + i = omega arith in
    window_at bytes p.offset (size_of p) (y * s + i) (omega (arith, ends, short))
    ∙ ap (λ (j : ℕ). get_or bytes j 0) here)

-- a region that is not reached by a change is the same
pub region_same : (xs ys : List ℕ) (p : Extent) → length ys ≡ length xs → p.offset + size_of p ≤ length xs →
    ((i : ℕ) → p.offset ≤ i → i < p.offset + size_of p → get_or ys i 0 ≡ get_or xs i 0)
    → region_in ys p ≡ region_in xs p
region_same xs ys p same inside each =
    ap (λ (bytes : List ℕ). let region : StoredRegion = record {
      width = p.width;
      height = p.height;
      depth = p.depth;
      bytes = bytes;
    } in region)
    (windows ys xs p.offset (p.offset + size_of p - p.offset) p.offset (p.offset + size_of p - p.offset) (omega arith)
    (omega arith) refl
    (λ i short. each (p.offset + i) (omega arith) (omega arith)))

pub row_untouched : (p : Extent) (y from to code : ℕ) (xs ys : List ℕ) → y < p.height
    → PaintsRow p y from to code xs ys → (i : ℕ) →
    (i < p.offset) ⊎ (p.offset + size_of p ≤ i) → get_or ys i 0 ≡ get_or xs i 0
row_untouched p y from to code xs ys row paints i where_it_is = paints.untouched i (elim where_it_is [
  | inl l ↦ inl (omega (arith, l))
  | inr r ↦ inr (omega (arith, r, row_fits_turned y (stride_of p) (stride_of p) p.height row (omega arith)))
])

pub still_tidy : (p : Extent) (y from to code : ℕ) (xs ys : List ℕ) → to ≤ p.width
    → PaintsRow p y from to code xs ys → IsTidy xs p → IsTidy ys p
still_tidy p y from to code xs ys short paints tidy x row right column below = elim (cases_order row y) [
  | inl e ↦ subst (λ (k : ℕ). pixel ys p x k ≡ pixel xs p x k) (sym e)
      (paints.beside x column (inr (omega arith))) ∙ tidy x row right column below
  | inr differ ↦ other_row p y x row xs ys paints.untouched column differ ∙ tidy x row right column below
]

pub run_painted : (p : Extent) (x y count from to code : ℕ) (xs ys : List ℕ) → y < p.height
    → from ≡ min x p.width → to ≡ min (x + count) p.width →
    PaintsRow p y from to code xs ys → IsRunPainted x y count code (region_in xs p) (region_in ys p)
run_painted p x y count from to code xs ys row from_is to_is paints = record {
  covered = λ column inside _ after before.
      code_of-region ys p column y (omega (arith, inside, wide_enough p)) row
      ∙ paints.covered column (omega (arith, after, from_is)) (omega (arith, before, inside, to_is));
  outside = λ column at inside below where_it_is.
      let wide : column < room_of p = omega (arith, inside, wide_enough p) in
      let same : pixel ys p column at ≡ pixel xs p column at = elim (cases_order at y) [
        | inl e ↦ subst (λ (k : ℕ). pixel ys p column k ≡ pixel xs p column k) (sym e)
            (paints.beside column wide (elim where_it_is [
              | inl ne ↦ absurd (ne e)
              | inr columns ↦ elim columns [
                | inl l ↦ inl (omega (arith, l, inside, from_is))
                | inr r ↦ inr (omega (arith, r, to_is))
              ]
            ]))
        | inr differ ↦ other_row p y column at xs ys paints.untouched wide differ
      ] in
      code_of-region ys p column at wide below ∙ same ∙ sym (code_of-region xs p column at wide below);
}

-- pixels that were laid over a row
pub string_painted : (p : Extent) (y start : ℕ) (over : ℕ → ℕ → ℕ) (pixels xs ys : List ℕ) → KeepsRows p y xs ys
    → LaysRow p y over start pixels xs ys → IsStringPainted start y over pixels (region_in xs p) (region_in ys p)
string_painted p y start over pixels xs ys keeps lays = record {
  here = λ x column below.
      let inside : x < room_of p = omega (arith, column, wide_enough p) in
      code_of-region ys p x y inside below ∙ lays x column below
      ∙ ap (code_after over start pixels x) (sym (code_of-region xs p x y inside below));
  elsewhere = λ x row column below differs.
      let inside : x < room_of p = omega (arith, column, wide_enough p) in
      code_of-region ys p x row inside below ∙ keeps.others x row inside below differs
      ∙ sym (code_of-region xs p x row inside below);
}

pub fill_painted : (p : Extent) (code : ℕ) (xs ys : List ℕ) → Fills p p.height code xs ys
    → IsFilled code (region_in ys p)
fill_painted p code xs ys fills column row inside below =
    code_of-region ys p column row (omega (arith, inside, wide_enough p)) below
    ∙ fills.covered column row inside below

pub fill_tidy : (p : Extent) (code : ℕ) (xs ys : List ℕ) → Fills p p.height code xs ys → IsTidy xs p
    → IsTidy ys p
fill_tidy p code xs ys fills tidy x y right column row = fills.beside x y column right row ∙ tidy x y right column row

row_bytes : (bytes : List ℕ) (p : Extent) (y : ℕ) → Fits bytes p → y < p.height
    → length (row_of (region_in bytes p) y) ≡ stride_of p
row_bytes bytes p y fits row =
    ap length (row_of-region bytes p y fits row)
    ∙ omega (
      arith,
      length-take (row_start p y + stride_of p - row_start p y)
          (drop (row_start p y) bytes),
      length-drop (row_start p y) bytes,
      row_inside bytes p y fits row,
    )

pub packed_row_is : (bytes : List ℕ) (p : Extent) (y : ℕ) → Fits bytes p → IsTidy bytes p → y < p.height →
    IsPackedRow (region_in bytes p) y (row_of (region_in bytes p) y)
packed_row_is bytes p y fits tidy row = record {
  whole = row_bytes bytes p y fits row;
  codes = λ x column. refl;
  zeros = λ x right short.
      let inside : x < room_of p =
      subst (λ (n : ℕ). x < n * codes_in_byte p.depth) (row_bytes bytes p y fits row) short in
      code_of-region bytes p x y inside row ∙ tidy x y right inside row;
}

-- what the regions need is what is taken
pub needs_adjoin : (bytes : List ℕ) (start : ℕ) (ps : List Extent) (end : ℕ) → Adjoin start ps end
    → start + sum_by need_in (map (region_in bytes) ps) ≡ end
needs_adjoin bytes start [] end adjoin = omega (arith, adjoin)
needs_adjoin bytes start (p ∷ ps) end adjoin =
    omega (
      arith,
      sum_by-cons need_in (region_in bytes p) (map (region_in bytes) ps),
      needs_adjoin bytes
          (start + size_of p) ps end adjoin.1,
    )

module _ (xs ys : List ℕ) (used : ℕ) (extents : List Extent) (k : ℕ) (is : IsStore xs used extents)
    (short : k < length extents) (same : length ys ≡ length xs)
    (untouched : (i : ℕ) → (i < (extent_at extents k).offset)
    ⊎ ((extent_at extents k).offset + size_of (extent_at extents k) ≤ i) → get_or ys i 0 ≡ get_or xs i 0)
    (tidy_here : IsTidy ys (extent_at extents k)) where
  elsewhere : (l i : ℕ) → l < length extents → l ≢ k → (extent_at extents l).offset ≤ i
      → i < (extent_at extents l).offset + size_of (extent_at extents l) →
      get_or ys i 0 ≡ get_or xs i 0
  elsewhere l i l_in ne after before = elim (cases_order l k) [
    | inl e ↦ absurd (ne e)
    | inr differ ↦ elim differ [
      | inl first ↦ untouched i (inl (omega (arith, before, Adjoin-before 0 extents used l k is.adjoin first short)))
      | inr second ↦ untouched i (inr (omega (arith, after, Adjoin-before 0 extents used k l is.adjoin second l_in)))
    ]
  ]

  pub changed_store : IsStore ys used extents
  changed_store = record {
    adjoin = is.adjoin;
    within = omega (arith, is.within, same);
    short = omega (arith, is.short, same);
    tidy = λ l l_in. elim (cases_eq l k) [
      | inl e ↦ subst (λ (m : ℕ). IsTidy ys (extent_at extents m)) (sym e) tidy_here
      | inr ne ↦ (λ x y right column row. still l l_in ne x y column row ∙ is.tidy l l_in x y right column row)
    ];
  } where
    still : (l : ℕ) → l < length extents → l ≢ k → (x y : ℕ) → x < room_of (extent_at extents l)
        → y < (extent_at extents l).height →
        pixel ys (extent_at extents l) x y ≡ pixel xs (extent_at extents l) x y
    still l l_in ne x y column row =
        let p = extent_at extents l in
        ap (code_in p.depth (x % codes_in_byte p.depth))
        (elsewhere l (row_start p y + x / codes_in_byte p.depth) l_in ne (omega arith)
        (omega (
          arith,
          column-below p x column,
          row_fits_turned y (stride_of p) (stride_of p) p.height row
              (omega arith),
        )))

  pub changed_others : KeepsOthers k (regions_in xs used extents) (regions_in ys used extents)
  changed_others =
      let new_here = region_at_is ys used extents k short in
      let old_here = region_at_is xs used extents k short in
      record {
        size = same;
        free = ap (λ (n : ℕ). n - used) same;
        count = length-map extents (region_in ys) ∙ sym (length-map extents (region_in xs));
        others = λ l ne. elim (cases_lt l (length extents)) [
          | inl l_in ↦
              region_at_is ys used extents l l_in
              ∙ region_same xs ys (extent_at extents l) same (slot_fits xs used extents l is l_in).inside
              (λ i after before. elsewhere l i l_in ne after before)
              ∙ sym (region_at_is xs used extents l l_in)
          | inr past ↦
              get_or-eq_default (map (region_in ys) extents) (blank 0 0 Two)
              (omega (arith, past, length-map extents (region_in ys)))
              ∙ sym (get_or-eq_default (map (region_in xs) extents) (blank 0 0 Two)
              (omega (arith, past, length-map extents (region_in xs))))
        ];
        width = ap (λ (r : StoredRegion). r.width) new_here ∙ sym (ap (λ (r : StoredRegion). r.width) old_here);
        height = ap (λ (r : StoredRegion). r.height) new_here ∙ sym (ap (λ (r : StoredRegion). r.height) old_here);
        depth = ap (λ (r : StoredRegion). r.depth) new_here ∙ sym (ap (λ (r : StoredRegion). r.depth) old_here);
      }
