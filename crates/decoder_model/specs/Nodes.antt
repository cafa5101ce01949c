-- What the regions of an epoch need: bytes in the pixel buffer and nodes in the composition memory (EN 300 743, clause
-- 5.2).
use Rattle.std.specs.Prelude.{ℕ, ◌+◌, ◌==◌, ◌&&◌, Bool, nat_lt, if◌then◌else◌, List, [], ◌∷◌, length, map, flat_map, filter_map, sum_by, Option, Some, None}
use Rattle.sub_base.specs.Depth as depths
use Rattle.sub_base.specs.declared.depth.Depth.{Depth}
use Rattle.sub_base.specs.declared.depth.Depth.TheVariants.{Two, Four, Eight}
use Rattle.stream_syntax.specs.Segments.{Page, Region, Clut}
use Rattle.stream_syntax.specs.declared.clut.ClutEntry.{ClutEntry}
use Rattle.stream_syntax.specs.declared.region.RegionHead.{RegionHead}
use Rattle.decoder_model.specs.Contents.{region_of, clut_of}
use Rattle.decoder_model.specs.Ink.{is_in_table}
use Rattle.sub_base.specs.Lists.{different}
use Rattle.decoder_model.specs.Taken.{Taken, taken_region}

-- two ids are the same
abbrev pub is_same : ℕ → ℕ → Bool
is_same a b = a == b

-- ---- regions and their pixels

-- the region_id of a region composition segment
abbrev pub region_id : Region → ℕ
region_id region = region.head.region

-- the ids of the regions that segments define, each once
unfoldable pub region_ids : Taken → List ℕ
region_ids taken = different is_same (map region_id (filter_map region_of taken.segments))

-- the bytes of a region's pixels
abbrev pub region_bytes : RegionHead → ℕ
region_bytes head = depths.pixel_bytes head.width head.height head.depth

-- the bytes of the pixels of a region, where there is one
abbrev pub bytes_of_region : Option Region → ℕ
bytes_of_region None = 0
bytes_of_region (Some region) = region_bytes region.head

-- the bytes of all regions, each by its last segment
abbrev pub pixels_used : Taken → ℕ
pixels_used taken = sum_by (λ id. bytes_of_region (taken_region id taken)) (region_ids taken)

-- ---- nodes

-- the CLUT_id of a CLUT definition segment
abbrev pub clut_id : Clut → ℕ
clut_id clut = clut.clut

-- the ids of the CLUTs that segments define, each once
unfoldable pub clut_ids : Taken → List ℕ
clut_ids taken = different is_same (map clut_id (filter_map clut_of taken.segments))

-- an entry of a table of a CLUT
pub record TableEntry : Type 0 where
  pub clut : ℕ
  pub depth : Depth
  pub entry : ℕ

-- two are one entry of one table of a CLUT: they have the same CLUT_id, depth and number
abbrev pub is_same_entry : TableEntry → TableEntry → Bool
is_same_entry a b = (a.clut == b.clut) && (depths.is_same_depth a.depth b.depth && (a.entry == b.entry))

-- an entry of a CLUT segment in the table of a depth, where it is flagged for the table and the table has it
abbrev pub in_table : ℕ → ClutEntry → Depth → Option TableEntry
in_table clut entry depth =
    if is_in_table depth entry && nat_lt entry.entry (depths.code_count depth)
    then Some (record { clut = clut; depth = depth; entry = entry.entry }) else None

-- the entries of the 2-bit, 4-bit and 8-bit tables of a CLUT that one entry of its segment sets
abbrev pub in_tables : ℕ → ClutEntry → List TableEntry
in_tables clut entry = filter_map (in_table clut entry) (Two ∷ Four ∷ Eight ∷ [])

-- the entries of tables that a CLUT segment sets
abbrev pub entries_of_clut : Clut → List TableEntry
entries_of_clut clut = flat_map (in_tables clut.clut) clut.entries

-- the entries of tables that segments set, each once
unfoldable pub table_entries : Taken → List TableEntry
table_entries taken = different is_same_entry (flat_map entries_of_clut (filter_map clut_of taken.segments))

-- how many objects a region lists, where there is a region
abbrev pub listing_count : Option Region → ℕ
listing_count None = 0
listing_count (Some region) = length region.listings

-- how many listings the regions have, each by its last segment
abbrev pub listings_held : Taken → ℕ
listings_held taken = sum_by (λ id. listing_count (taken_region id taken)) (region_ids taken)

-- the nodes of a composition: one for each entry of the page, region, listing, CLUT, and entry that is set in a table
abbrev pub nodes_of : Taken → Page → ℕ
nodes_of taken page =
    length page.entries + length (region_ids taken) + listings_held taken + length (clut_ids taken)
    + length (table_entries taken)
