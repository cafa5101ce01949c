-- What is read of a composition by an id.
use Rattle.std.specs.Prelude.{◌≡◌, ℕ, Option, None, MatchOption, Some}
use Rattle.page_core.specs.Composition.{Composition, KeptRegion, region_in}
use Rattle.page_core.specs.declared.node.RegionNode.{RegionNode}

-- a node has the head and the slot of a region
pub record IsNodeOf (kept : KeptRegion) (region : RegionNode) : Type 0 where
  pub head : region.head ≡ kept.head
  pub slot : region.slot ≡ kept.slot

-- the region of that id, where there is one
abbrev pub IsRegionIn : Composition → ℕ → Option RegionNode → Type 0
IsRegionIn composition id found =
    MatchOption found (region_in composition id ≡ None)
    (λ region. (kept : KeptRegion) × (region_in composition id ≡ Some kept) × IsNodeOf kept region)
