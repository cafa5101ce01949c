-- What a store keeps: its bytes, how many of them are taken, and where each region is.
use Rattle.std.specs.Prelude.{◌≡◌, ℕ, ◌+◌, ◌-◌, ◌^◌, ◌<◌, ◌≤◌, List, [], ◌∷◌, length, map, slice_index_or, slice_range}
use Rattle.sub_base.specs.declared.depth.Depth.TheVariants.{Two}
use Rattle.pixel_store.specs.declared.extent.Extent.{Extent}
use Rattle.pixel_store.specs.Private.Extents.{room_of, size_of, pixel}
use Rattle.pixel_store.specs.Regions.{StoredRegion, Regions}

-- the region of an extent
abbrev pub region_in : List ℕ → Extent → StoredRegion
region_in bytes extent =
    record {
      width = extent.width;
      height = extent.height;
      depth = extent.depth;
      bytes = slice_range bytes extent.offset
          (extent.offset + size_of extent);
    }

-- the store of these bytes, of which so many are taken, and of the regions that these extents have in them
abbrev pub regions_in : List ℕ → ℕ → List Extent → Regions
regions_in bytes used extents =
    record { size = length bytes; regions = map (region_in bytes) extents; free = length bytes - used }

-- what stands for no extent
abbrev pub no_extent : Extent
no_extent = record { offset = 0; width = 0; height = 0; depth = Two }

-- the extent of the region of a slot
abbrev pub extent_at : List Extent → ℕ → Extent
extent_at extents slot = slice_index_or extents slot no_extent

-- each region begins where the one before it ends
abbrev pub Adjoin : ℕ → List Extent → ℕ → Type 0
Adjoin start [] end = start ≡ end
Adjoin start (extent ∷ extents) end = (extent.offset ≡ start) × Adjoin (start + size_of extent) extents end

-- behind the last code of each row are zeros
abbrev pub IsTidy : List ℕ → Extent → Type 0
IsTidy bytes extent =
    (x y : ℕ) → extent.width ≤ x → x < room_of extent → y < extent.height → pixel bytes extent x y ≡ 0

-- the regions stand one after another within the bytes, and each is tidy
pub record IsStore (bytes : List ℕ) (used : ℕ) (extents : List Extent) : Type 0 where
  pub adjoin : Adjoin 0 extents used
  pub within : used ≤ length bytes
  pub short : length bytes < 2 ^ 64
  pub tidy : (slot : ℕ) → slot < length extents → IsTidy bytes (extent_at extents slot)
