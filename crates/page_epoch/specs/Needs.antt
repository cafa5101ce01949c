-- What a receiver needs for an epoch and for a set.
use Rattle.std.specs.Prelude.{ℕ, ◌+◌, true, List, length, sum_by}
use Rattle.sub_base.specs.Depth.{pixel_bytes}
use Rattle.cue_list.specs.declared.epoch.Epoch.{Epoch}
use Rattle.cue_records.specs.declared.region.Region.{Region}
use Rattle.page_epoch.specs.declared.planned_set.SentClut.{SentClut}
use Rattle.page_epoch.specs.SentRegions.{drawn_count}
use Rattle.page_epoch.specs.SentCluts.{sent_cluts}

-- the bytes of a region's pixels
abbrev pub region_need : Region → ℕ
region_need region = pixel_bytes region.width region.height region.depth

-- the bytes of the pixels of an epoch's regions
abbrev pub pixel_need : List Region → ℕ
pixel_need regions = sum_by region_need regions

-- a node for each CLUT, and for each of its entries
abbrev pub clut_nodes : List SentClut → ℕ
clut_nodes cluts = length cluts + sum_by (λ clut. length clut.rows) cluts

-- the nodes of a set that shows so many regions: one for each region of the epoch and each one shown, one for each cue
-- that a region was last drawn with, and one for each CLUT and each of its entries that were defined so far
abbrev pub node_need : Epoch → List ℕ → ℕ → ℕ
node_need epoch seen shown =
    length epoch.regions + shown + sum_by (λ region. drawn_count epoch.cues region.id seen) epoch.regions
    + clut_nodes (sent_cluts epoch.colours true seen)
