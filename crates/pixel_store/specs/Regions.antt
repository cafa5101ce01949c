-- What a store has: regions in the order in which they were placed, and free bytes.
use Rattle.std.specs.Prelude.{◌≡◌, ◌≢◌, ℕ, ◌+◌, ◌-◌, ◌*◌, ◌<◌, ◌≤◌, ◌⊎◌, List, [], ◌∷◌, ◌++◌, length, slice_index_or, slice_range, replicate}
use Rattle.sub_base.specs.declared.depth.Depth.{Depth}
use Rattle.sub_base.specs.declared.depth.Depth.TheVariants.{Two}
use Rattle.string_painting.specs.Codes.{packed_code, codes_in_byte}
use Rattle.string_painting.specs.Painting.{code_after}
use Rattle.sub_base.specs.Depth.{packed_length, pixel_bytes}

-- a region: its sides in pixels, its depth, and its packed rows, one after another
pub record StoredRegion : Type 0 where
  pub width : ℕ
  pub height : ℕ
  pub depth : Depth
  pub bytes : List ℕ

-- how many bytes a row has
abbrev pub row_length : StoredRegion → ℕ
row_length region = packed_length region.depth region.width

-- the packed bytes of a row
abbrev pub row_of : StoredRegion → ℕ → List ℕ
row_of region y = slice_range region.bytes (y * row_length region) (y * row_length region + row_length region)

-- the code in column x of row y
abbrev pub code_of : StoredRegion → ℕ → ℕ → ℕ
code_of region x y = packed_code region.depth (row_of region y) x

-- how many bytes of a store the region takes
abbrev pub need_in : StoredRegion → ℕ
need_in region = pixel_bytes region.width region.height region.depth

-- a region of zeros
abbrev pub blank : ℕ → ℕ → Depth → StoredRegion
blank width height depth =
    record { width = width; height = height; depth = depth; bytes = replicate (pixel_bytes width height depth) 0 }

-- a store: its bytes, the regions in it, each named by its index, and the bytes that no region takes
pub record Regions : Type 0 where
  pub size : ℕ
  pub regions : List StoredRegion
  pub free : ℕ

-- a slot is the index of a region that is placed
abbrev pub IsPlaced : Regions → ℕ → Type 0
IsPlaced store slot = slot < length store.regions

-- the region of a slot, and one without pixels where none is placed there
abbrev pub region_at : Regions → ℕ → StoredRegion
region_at store slot = slice_index_or store.regions slot (blank 0 0 Two)

-- a store of so many bytes without a region
abbrev pub no_regions : ℕ → Regions
no_regions size = record { size = size; regions = []; free = size }

-- the store with one more region, of zeros
abbrev pub with_region : ℕ → ℕ → Depth → Regions → Regions
with_region width height depth store =
    record {
      size = store.size;
      regions = store.regions ++ blank width height depth ∷ [];
      free = store.free - pixel_bytes width height depth;
    }

-- a region needs more bytes than are free, and these are the two numbers
abbrev pub IsOver : ℕ → ℕ → Depth → Regions → ℕ → ℕ → Type 0
IsOver width height depth store need free =
    (need ≡ pixel_bytes width height depth) × (free ≡ store.free) × (free < need)

-- a further region was placed: it is of zeros, and the regions before it are as they were
pub record PlacesOne (width height : ℕ) (depth : Depth) (slot : ℕ) (old new : Regions) : Type 0 where
  pub index : slot ≡ length old.regions
  pub count : length new.regions ≡ length old.regions + 1
  pub kept : (other : ℕ) → IsPlaced old other → region_at new other ≡ region_at old other
  pub placed : region_at new slot ≡ blank width height depth
  pub zeros : (x y : ℕ) → x < width → y < height → code_of (region_at new slot) x y ≡ 0
  pub size : new.size ≡ old.size
  pub free : new.free + pixel_bytes width height depth ≡ old.free

-- nothing but the codes of one region may have changed
pub record KeepsOthers (slot : ℕ) (old new : Regions) : Type 0 where
  pub count : length new.regions ≡ length old.regions
  pub others : (other : ℕ) → other ≢ slot → region_at new other ≡ region_at old other
  pub width : (region_at new slot).width ≡ (region_at old slot).width
  pub height : (region_at new slot).height ≡ (region_at old slot).height
  pub depth : (region_at new slot).depth ≡ (region_at old slot).depth
  pub size : new.size ≡ old.size
  pub free : new.free ≡ old.free

-- every pixel of the region has that code
abbrev pub IsFilled : ℕ → StoredRegion → Type 0
IsFilled code region = (x y : ℕ) → x < region.width → y < region.height → code_of region x y ≡ code

-- the pixels of row `row` from column `left` on, `count` of them as far as the region has them, have that code, and all
-- others are as they were
pub record IsRunPainted (left row count code : ℕ) (old new : StoredRegion) : Type 0 where
  pub covered : (x : ℕ) → x < old.width → row < old.height → left ≤ x → x < left + count
      → code_of new x row ≡ code
  pub outside : (x y : ℕ) → x < old.width → y < old.height → (y ≢ row)
      ⊎ ((x < left) ⊎ (left + count ≤ x)) →
      code_of new x y ≡ code_of old x y

-- the pixels were laid over row `row` from column `left` on, as far as the region has them, and all other rows are as
-- they were; `over` says what a code becomes under a pixel
pub record IsStringPainted (left row : ℕ) (over : ℕ → ℕ → ℕ) (pixels : List ℕ) (old new : StoredRegion) : Type 0 where
  pub here : (x : ℕ) → x < old.width → row < old.height
      → code_of new x row ≡ code_after over left pixels x (code_of old x row)
  pub elsewhere : (x y : ℕ) → x < old.width → y < old.height → y ≢ row → code_of new x y ≡ code_of old x y

-- packed bytes have the codes of a row of the region, and behind the last of them zeros
pub record IsPackedRow (region : StoredRegion) (y : ℕ) (bytes : List ℕ) : Type 0 where
  pub whole : length bytes ≡ row_length region
  pub codes : (x : ℕ) → x < region.width → packed_code region.depth bytes x ≡ code_of region x y
  pub zeros : (x : ℕ) → region.width ≤ x → x < length bytes * codes_in_byte region.depth
      → packed_code region.depth bytes x ≡ 0
