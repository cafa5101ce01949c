-- The lines of a region as packed bytes: each pixel code in as many bits as the region's depth has, the first in the
-- highest.
use Rattle.std.specs.Prelude.{◌≡◌, ℕ, ◌==◌, ◌<◌, nat_lt, true, false, if◌then◌else◌, List, ◌++◌, map, flat_map, replicate, Option, Some, None}
use Rattle.std.specs.List.{list_any, range_with_len}
use Rattle.sub_base.specs.Depth as depths
use Rattle.sub_base.specs.declared.depth.Depth.{Depth}
use Rattle.stream_syntax.specs.PixelCodes.{bits, bits_of}
use Rattle.stream_syntax.specs.Segments.{Region}
use Rattle.decoder_model.specs.Pixels.{pixel_of}
use Rattle.decoder_model.specs.Shown.{Scene}
use Rattle.decoder_model.specs.Taken.{Taken, taken_region}

-- the codes of a line of a region
abbrev pub codes_of_line : Taken → Region → ℕ → List ℕ
codes_of_line taken region line =
    map (λ x. pixel_of taken region.head.region x line) (range_with_len 0 region.head.width)

-- the bytes are these codes, and then fewer than eight bits of 0
pub record ArePacked (depth : Depth) (codes bytes : List ℕ) : Type 0 where
  pub left : ℕ
  pub few : left < 8
  pub spelled : bits_of bytes ≡ flat_map (bits (depths.bits_of depth)) codes ++ replicate left 0

-- the region of that id, where the page lists it
abbrev pub listed_region : Scene → ℕ → Option Region
listed_region scene id =
    if list_any (λ entry. entry.region == id) scene.entries then taken_region id scene.taken else None

-- these are the packed bytes of a line of a region: there are none where there is no region, or it has no such line
abbrev pub IsPackedLine : Taken → Option Region → ℕ → Option (List ℕ) → Type 0
IsPackedLine taken None line found = found ≡ None
IsPackedLine taken (Some region) line None = nat_lt line region.head.height ≡ false
IsPackedLine taken (Some region) line (Some bytes) =
    (nat_lt line region.head.height ≡ true) × ArePacked region.head.depth (codes_of_line taken region line) bytes
