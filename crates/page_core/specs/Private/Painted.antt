-- What painting changes in a store of regions, in the words of the last write to a pixel (EN 300 743, clauses 7.2.3 and
-- 7.2.5).
use Rattle.std.specs.Prelude.{ℕ, ◌<◌, ◌==◌, Bool, if◌then◌else◌, List, [], length, Option}
use Rattle.std.specs.Option.{option_or}
use Rattle.sub_base.specs.declared.depth.Depth.{Depth}
use Rattle.stream_syntax.specs.PixelBlocks.{Part, runs_after}
use Rattle.stream_syntax.specs.declared.pixel_run.Run.{Run}
use Rattle.stream_syntax.specs.declared.region.Listing.{Listing}
use Rattle.stream_syntax.specs.declared.region.RegionHead.{RegionHead}
use Rattle.stream_syntax.specs.Segments.{Object}
use Rattle.decoder_model.specs.Pixels.{bottom_parts, code_by_field}
use Rattle.pixel_store.specs.Regions.{Regions, IsPlaced, region_at}
use Rattle.page_core.specs.Memory.{HasSidesOf}

-- a slot of the store has a region with the sides and the depth of a head
pub record HasRegion (head : RegionHead) (slot : ℕ) (store : Regions) : Type 0 where
  pub placed : IsPlaced store slot
  pub sides : HasSidesOf head (region_at store slot)

-- the numbers of a region's head fit their fields: the id of its CLUT, and the codes with which it is filled at each
-- depth
pub record FitsHead (head : RegionHead) : Type 0 where
  pub clut : head.clut < 256
  pub code8 : head.code8 < 256
  pub code4 : head.code4 < 16
  pub code2 : head.code2 < 4

-- the runs of an object's two fields in regions of a depth
pub record FieldRuns : Type 0 where
  pub depth : Depth
  pub top : List Run
  pub bottom : List Run

-- the code that both fields of an object put in a column and a row, from the corner of a listing on
abbrev pub code_by_fields : Bool → FieldRuns → ℕ → ℕ → Listing → Option ℕ
code_by_fields see_through fields x y listing =
    option_or (code_by_field see_through listing 1 x y fields.bottom)
    (code_by_field see_through listing 0 x y fields.top)

-- the runs of these sub-blocks in a region of a depth, where an empty bottom block stands for the top block
abbrev pub field_runs : Depth → List Part → List Part → FieldRuns
field_runs depth top bottom =
    record { depth = depth; top = runs_after depth [] top; bottom = runs_after depth [] (bottom_parts top bottom) }

-- the bytes of the bottom field's block, where an empty one stands for the top field's
abbrev pub bottom_bytes : Object → List ℕ
bottom_bytes object = if length object.bottom == 0 then object.top else object.bottom
