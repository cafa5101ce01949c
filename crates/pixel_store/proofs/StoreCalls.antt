-- What the calls of a store need and do, over its bytes and the extents of its regions.
use Rattle.std.proofs.Common.{◌≡◌, ◌∙◌, refl, sym, ap, subst, ℕ, ◌+◌, ◌*◌, ◌/◌, ◌%◌, ◌<◌, ◌≤◌, ◌⊎◌, List, [], ◌∷◌, length, sum_by, get_or, replicate, min, slice_range, arith}
use Rattle.std.proofs.lemmas.List.{length-map, get_or-replicate, get_or_append_left, get_or_push, length_push}
use Rattle.std.proofs.lemmas.Nat.{row_fits_turned}
use Rattle.sub_base.specs.declared.depth.Depth.{Depth}
use Rattle.sub_base.specs.declared.depth.Depth.TheVariants.{Two}
use Rattle.pixel_store.specs.declared.extent.Extent.{Extent}
use Rattle.string_painting.specs.Codes.{codes_in_byte, code_in}
use Rattle.pixel_store.specs.Private.Extents.{stride_of, room_of, size_of, row_start, pixel, Fits}
use Rattle.pixel_store.specs.Private.Painting.{PaintsRow, KeepsRows, LaysRow, Fills}
use Rattle.pixel_store.specs.Regions.{StoredRegion, Regions, IsPlaced, region_at, code_of, blank, need_in, with_region, PlacesOne, KeepsOthers, IsFilled, IsRunPainted, IsStringPainted, IsPackedRow}
use Rattle.pixel_store.specs.Private.Stores.{region_in, regions_in, extent_at, IsTidy, IsStore}
use Rattle.pixel_store.proofs.Rows.{column-below, wide_enough, in_byte}
use Rattle.pixel_store.proofs.Slots.{slot_fits, region_at_is, code_of-region, row_of-region, packed_row_is, row_untouched, still_tidy, run_painted, string_painted, fill_painted, fill_tidy, needs_adjoin, window_at, changed_store, changed_others}
use Rattle.pixel_store.proofs.Placing.{zero_code}
use Rattle.sub_base.specs.Depth.{pixel_bytes}

module _ (xs : List ℕ) (used : ℕ) (extents : List Extent) (store : Regions)
    (view : regions_in xs used extents ≡ store) (is : IsStore xs used extents)
    (slot : ℕ) (placed : IsPlaced store slot) (p : Extent) (here : p ≡ extent_at extents slot) where
  slot_short : slot < length extents
  slot_short =
      omega (
        arith,
        subst (λ (s : Regions). slot < length s.regions) (sym view) placed,
        length-map extents
            (region_in xs),
      )

  pub region_is : region_at store slot ≡ region_in xs p
  region_is =
      ap (λ (s : Regions). region_at s slot) (sym view) ∙ region_at_is xs used extents slot slot_short
      ∙ ap (region_in xs) (sym here)

  pub extent_fits : Fits xs p
  extent_fits = subst (Fits xs) (sym here) (slot_fits xs used extents slot is slot_short)

  tidy_here : IsTidy xs p
  tidy_here = subst (IsTidy xs) (sym here) (is.tidy slot slot_short)

  pub code_read : (x y : ℕ) → x < (region_at store slot).width → y < (region_at store slot).height
      → pixel xs p x y ≡ code_of (region_at store slot) x y
  code_read x y column row =
      sym (code_of-region xs p x y
      (omega (arith, subst (λ (r : StoredRegion). x < r.width) region_is column, wide_enough p))
      (subst (λ (r : StoredRegion). y < r.height) region_is row))
      ∙ ap (λ (r : StoredRegion). code_of r x y) (sym region_is)

  pub row_read : (y : ℕ) → y < (region_at store slot).height →
      IsPackedRow (region_at store slot) y (slice_range xs (row_start p y) (row_start p y + stride_of p))
  row_read y row =
      let below : y < p.height = subst (λ (r : StoredRegion). y < r.height) region_is row in
      subst (λ (r : StoredRegion). IsPackedRow r y (slice_range xs (row_start p y) (row_start p y + stride_of p)))
      (sym region_is)
      (subst (IsPackedRow (region_in xs p) y) (row_of-region xs p y extent_fits below)
      (packed_row_is xs p y extent_fits tidy_here below))

  module _ (ys : List ℕ) (same : length ys ≡ length xs)
      (untouched : (i : ℕ) → (i < p.offset) ⊎ (p.offset + size_of p ≤ i) → get_or ys i 0 ≡ get_or xs i 0)
      (tidy : IsTidy ys p) where
    Untouched : Extent → Type 0
    Untouched q = (i : ℕ) → (i < q.offset) ⊎ (q.offset + size_of q ≤ i) → get_or ys i 0 ≡ get_or xs i 0

    still_store : IsStore ys used extents
    unfolding Untouched
    still_store =
        changed_store xs ys used extents slot is slot_short same (subst Untouched here untouched)
        (subst (IsTidy ys) here tidy)

    others_kept : KeepsOthers slot store (regions_in ys used extents)
    unfolding Untouched
    others_kept =
        subst (λ (s : Regions). KeepsOthers slot s (regions_in ys used extents)) view
        (changed_others xs ys used extents slot is slot_short same (subst Untouched here untouched)
        (subst (IsTidy ys) here tidy))

    region_now : region_in ys p ≡ region_at (regions_in ys used extents) slot
    region_now = ap (region_in ys) here ∙ sym (region_at_is ys used extents slot slot_short)

  pub filled_store : (ys : List ℕ) (code : ℕ) → length ys ≡ length xs → Fills p p.height code xs ys →
      IsStore ys used extents × KeepsOthers slot store (regions_in ys used extents)
      × IsFilled code (region_at (regions_in ys used extents) slot)
  filled_store ys code same fills =
      let tidy = fill_tidy p code xs ys fills tidy_here in (
        still_store ys same fills.untouched tidy,
        others_kept ys same fills.untouched tidy,
        subst (IsFilled code) (region_now ys same fills.untouched tidy) (fill_painted p code xs ys fills),
      )

  pub run_store : (ys : List ℕ) (x y count code from to : ℕ) → length ys ≡ length xs → y < p.height
      → from ≡ min x p.width → to ≡ min (x + count) p.width →
      PaintsRow p y from to code xs ys →
      IsStore ys used extents × KeepsOthers slot store (regions_in ys used extents)
      × IsRunPainted x y count code (region_at store slot) (region_at (regions_in ys used extents) slot)
  run_store ys x y count code from to same row from_is to_is paints =
      let untouched = row_untouched p y from to code xs ys row paints in
      let tidy = still_tidy p y from to code xs ys (omega (arith, to_is)) paints tidy_here in (
        still_store ys same untouched tidy,
        others_kept ys same untouched tidy,
        subst (λ (r : StoredRegion). IsRunPainted x y count code r (region_at (regions_in ys used extents) slot))
            (sym region_is)
            (subst (IsRunPainted x y count code (region_in xs p)) (region_now ys same untouched tidy)
            (run_painted p x y count from to code xs ys row from_is to_is paints)),
      )

  -- columns of one row may have changed
  module _ (ys : List ℕ) (y : ℕ) (same : length ys ≡ length xs) (keeps : KeepsRows p y xs ys) where
    row_tidy : IsTidy ys p
    row_tidy x row right column below = keeps.beside x row right column below ∙ tidy_here x row right column below

    pub row_store : IsStore ys used extents
    row_store = still_store ys same keeps.untouched row_tidy

    pub row_others : KeepsOthers slot store (regions_in ys used extents)
    row_others = others_kept ys same keeps.untouched row_tidy

    pub row_painted : (start : ℕ) (over : ℕ → ℕ → ℕ) (pixels : List ℕ) → LaysRow p y over start pixels xs ys
        → IsStringPainted start y over pixels (region_at store slot) (region_at (regions_in ys used extents) slot)
    row_painted start over pixels lays =
        subst (λ (r : StoredRegion).
        IsStringPainted start y over pixels r (region_at (regions_in ys used extents) slot)) (sym region_is)
        (subst (IsStringPainted start y over pixels (region_in xs p)) (region_now ys same keeps.untouched row_tidy)
        (string_painted p y start over pixels xs ys keeps lays))

-- what is free and what the regions need is the whole store
pub all_bytes : (xs : List ℕ) (used : ℕ) (extents : List Extent) (store : Regions)
    → regions_in xs used extents ≡ store → IsStore xs used extents →
    store.free + sum_by need_in store.regions ≡ store.size
all_bytes xs used extents store view is =
    let All : Regions → Type 0 = λ s. s.free + sum_by need_in s.regions ≡ s.size in
    subst All view (omega (arith, needs_adjoin xs 0 extents used is.adjoin, is.within))

-- a blank region has zeros
blank_code : (width height : ℕ) (depth : Depth) (x y : ℕ) → x < width → y < height
    → code_of (blank width height depth) x y ≡ 0
blank_code width height depth x y column row =
    let p : Extent = record { offset = 0; width = width; height = height; depth = depth } in
    let inside : x < room_of p = omega (arith, column, wide_enough p) in
    let index : y * stride_of p + x / codes_in_byte depth < pixel_bytes width height depth =
    omega (arith, column-below p x inside, row_fits_turned y (stride_of p) (stride_of p) height row (omega arith)) in
    ap (code_in depth (x % codes_in_byte depth))
    (window_at (replicate (pixel_bytes width height depth) 0) (y * stride_of p) (stride_of p) (x / codes_in_byte depth)
    (column-below p x inside)
    ∙ get_or-replicate (pixel_bytes width height depth) (y * stride_of p + x / codes_in_byte depth) 0 0 index)
    ∙ zero_code depth (x % codes_in_byte depth) (in_byte depth x)

pub places_one : (width height : ℕ) (depth : Depth) (slot : ℕ) (old new : Regions) → slot ≡ length old.regions
    → pixel_bytes width height depth ≤ old.free →
    new ≡ with_region width height depth old → PlacesOne width height depth slot old new
places_one width height depth slot old new at room is =
    let region = blank width height depth in
    let Placed : Regions → Type 0 = λ s. PlacesOne width height depth slot old s in
    let new_here : region_at (with_region width height depth old) slot ≡ region =
    get_or_push old.regions region (blank 0 0 Two) slot (sym at) in
    subst Placed (sym is) (record {
      index = at;
      count = length_push old.regions region;
      kept = λ other placed. get_or_append_left old.regions (region ∷ []) (blank 0 0 Two) other placed;
      placed = new_here;
      zeros =
          λ x y column row. ap (λ (r : StoredRegion). code_of r x y) new_here
          ∙ blank_code width height depth x y column row;
      size = refl;
      free = omega (arith, room);
    })
