use Rattle.std.proofs.Common.{◌≡◌, ◌∙◌, refl, sym, ap, subst, inl, inr, ℕ, zero, suc, ◌+◌, ◌-◌, ◌/◌, ◌%◌, ◌<◌, ◌≤◌, ◌⊎◌, List, [], ◌∷◌, ◌++◌, length, map, get_or, take, drop, replicate, length-drop, length-take, arith}
use Rattle.std.proofs.lemmas.Bool.{cases_lt}
use Rattle.std.proofs.lemmas.Nat.{row_fits_turned}
use Rattle.std.proofs.lemmas.List.{get_or-replicate, length-replicate, map-append, ext_get_or, get_or_append_left, get_or_push, length_push}
use Rattle.sub_base.specs.declared.depth.Depth.{Depth}
use Rattle.sub_base.specs.declared.depth.Depth.TheVariants.{Two, Four, Eight}
use Rattle.pixel_store.specs.declared.extent.Extent.{Extent}
use Rattle.string_painting.specs.Codes.{codes_in_byte, code_in}
use Rattle.pixel_store.specs.Private.Extents.{stride_of, room_of, size_of, row_start}
use Rattle.pixel_store.specs.Regions.{StoredRegion, with_region}
use Rattle.pixel_store.specs.Private.Stores.{region_in, no_extent, Adjoin, IsTidy, extent_at, IsStore, regions_in}
use Rattle.pixel_store.proofs.Bytes.{each_digit}
use Rattle.pixel_store.proofs.Rows.{column-below, in_byte}
use Rattle.pixel_store.proofs.Slots.{Adjoin-at, window_at, region_same, slot_fits}

Adjoin-push : (start : ℕ) (ps : List Extent) (end : ℕ) (p : Extent) → Adjoin start ps end → p.offset ≡ end
    → Adjoin start (ps ++ p ∷ []) (end + size_of p)
Adjoin-push start [] end p adjoin here = (here ∙ sym adjoin, ap (λ (n : ℕ). n + size_of p) adjoin)
Adjoin-push start (q ∷ ps) end p adjoin here = (adjoin.0, Adjoin-push (start + size_of q) ps end p adjoin.1 here)

pub zero_code : (depth : Depth) (j : ℕ) → j < codes_in_byte depth → code_in depth j 0 ≡ 0
zero_code Two j short = each_digit Two j 0 short (omega arith)
zero_code Four j short = each_digit Four j 0 short (omega arith)
zero_code Eight j short = each_digit Eight j 0 short (omega arith)

same_regions : (xs ys : List ℕ) (extents : List Extent)
    → ((k : ℕ) → k < length extents
    → region_in ys (extent_at extents k) ≡ region_in xs (extent_at extents k)) →
    map (region_in ys) extents ≡ map (region_in xs) extents
same_regions xs ys [] each = refl
same_regions xs ys (p ∷ extents) each =
    ap (λ (r : StoredRegion). r ∷ map (region_in ys) extents) (each zero (omega arith))
    ∙ ap (λ (rs : List StoredRegion). region_in xs p ∷ rs)
    (same_regions xs ys extents (λ k short. each (suc k) (omega arith)))

module _ (xs ys : List ℕ) (used : ℕ) (extents : List Extent) (p : Extent) (is : IsStore xs used extents)
    (same : length ys ≡ length xs)
    (here : p.offset ≡ used) (room : used + size_of p ≤ length xs)
    (inside : (i : ℕ) → used ≤ i → i < used + size_of p → get_or ys i 0 ≡ 0)
    (outside : (i : ℕ) → (i < used) ⊎ (used + size_of p ≤ i) → get_or ys i 0 ≡ get_or xs i 0) where
  byte_before : (k x y : ℕ) → k < length extents → x < room_of (extent_at extents k)
      → y < (extent_at extents k).height →
      row_start (extent_at extents k) y + x / codes_in_byte (extent_at extents k).depth < used
  byte_before k x y short column row =
      let q = extent_at extents k in
      let l = Adjoin-at 0 extents used k is.adjoin short in
      omega (
        arith,
        l.1,
        column-below q x column,
        row_fits_turned y (stride_of q) (stride_of q) q.height row
            (omega arith),
      )

  tidy_old : (k : ℕ) → k < length extents → IsTidy ys (extent_at extents k)
  tidy_old k short x y right column row =
      let q = extent_at extents k in
      ap (code_in q.depth (x % codes_in_byte q.depth))
      (outside (row_start q y + x / codes_in_byte q.depth) (inl (byte_before k x y short column row)))
      ∙ is.tidy k short x y right column row

  tidy_new : IsTidy ys p
  tidy_new x y right column row =
      ap (code_in p.depth (x % codes_in_byte p.depth))
      (inside (row_start p y + x / codes_in_byte p.depth) (omega (arith, here))
      (omega (
        arith,
        here,
        column-below p x column,
        row_fits_turned y (stride_of p) (stride_of p) p.height row
            (omega arith),
      )))
      ∙ zero_code p.depth (x % codes_in_byte p.depth) (in_byte p.depth x)

  pub placed_store : IsStore ys (used + size_of p) (extents ++ p ∷ [])
  placed_store = record {
    adjoin = Adjoin-push 0 extents used p is.adjoin here;
    within = omega (arith, same, room);
    short = omega (arith, same, is.short);
    tidy = λ k short. elim (cases_lt k (length extents)) [
      | inl old ↦ subst (IsTidy ys) (sym (get_or_append_left extents (p ∷ []) no_extent k old)) (tidy_old k old)
      | inr new ↦ subst (IsTidy ys)
          (sym (get_or_push extents p no_extent k (omega (arith, new, short, length_push extents p)))) tidy_new
    ];
  }

  zeros_here : take (p.offset + size_of p - p.offset) (drop p.offset ys) ≡ replicate (size_of p) 0
  zeros_here =
      let long : length (take (p.offset + size_of p - p.offset) (drop p.offset ys)) ≡ size_of p =
      omega (
        arith,
        length-take (p.offset + size_of p - p.offset) (drop p.offset ys),
        length-drop p.offset
            ys,
        same,
        room,
        here,
      ) in
      ext_get_or 0 (take (p.offset + size_of p - p.offset) (drop p.offset ys)) (replicate (size_of p) 0)
      (long ∙ sym (length-replicate (size_of p) (let none : ℕ = 0 in none)))
      (λ i short.
      let within : i < size_of p = omega (arith, short, long) in
      window_at ys p.offset (size_of p) i within
      ∙ inside (p.offset + i) (omega (arith, here)) (omega (arith, here, within))
      ∙ sym (get_or-replicate (size_of p) i 0 0 within))

  pub placed_view : regions_in ys (used + size_of p) (extents ++ p ∷ [])
      ≡ with_region p.width p.height p.depth (regions_in xs used extents)
  placed_view =
      let old : map (region_in ys) extents ≡ map (region_in xs) extents = same_regions xs ys extents (λ k short.
      let l = Adjoin-at 0 extents used k is.adjoin short in
      region_same xs ys (extent_at extents k) same (slot_fits xs used extents k is short).inside
      (λ i after before. outside i (inl (omega (arith, before, l.1))))) in
      let region : StoredRegion → StoredRegion = λ r. r in
      let new : region_in ys p
      ≡ record { width = p.width; height = p.height; depth = p.depth; bytes = replicate (size_of p) 0 } =
      ap (λ (bytes : List ℕ). region (record { width = p.width; height = p.height; depth = p.depth; bytes = bytes }))
      zeros_here in
      let all : map (region_in ys) (extents ++ p ∷ []) ≡ map (region_in xs) extents
      ++ (record { width = p.width; height = p.height; depth = p.depth; bytes = replicate (size_of p) 0 }) ∷ [] =
      map-append (region_in ys) extents (p ∷ []) ∙ ap (λ (rs : List StoredRegion). rs ++ region_in ys p ∷ []) old
      ∙ ap (λ (r : StoredRegion). map (region_in xs) extents ++ r ∷ []) new in
      let free : length ys - (used + size_of p) ≡ length xs - used - size_of p = omega (arith, same) in
      (λ i. record { size = same i; regions = all i; free = free i })
