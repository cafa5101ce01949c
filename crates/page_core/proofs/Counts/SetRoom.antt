-- There are nodes for what a set brings, where the epoch with it needs no more than there are.
use Rattle.std.proofs.Common.{◌≡◌, ◌∙◌, refl, sym, ap, ℕ, ◌+◌, ◌-◌, ◌≤◌, Bool, true, false, cond, ltb, List, [], ◌++◌, length, Some, None, arith}
use Rattle.std.specs.Prelude.{sum_by}
use Rattle.std.specs.List.{list_any}
use Rattle.std.proofs.lemmas.Bool.Decides.{nat_tests}
use Rattle.sub_base.specs.declared.profile.Profile.{Profile}
use Rattle.stream_syntax.specs.Segments.{Page}
use Rattle.stream_syntax.specs.declared.page.PageEntry.{PageEntry}
use Rattle.decoder_model.specs.Faults.{composition_fault}
use Rattle.decoder_model.specs.Nodes.{region_ids, clut_ids, table_entries, listings_held, nodes_of}
use Rattle.decoder_model.specs.Readings.{Content}
use Rattle.decoder_model.specs.Taken.{Taken, taken_of}
use Rattle.decoder_model.specs.declared.set_fault.SetFault.TheVariants.{CompositionFull}
use Rattle.page_core.specs.Composition.{KeptRegion}
use Rattle.page_core.specs.Memory.{Memory, IsWholeMemory, HoldsSegments}
use Rattle.page_core.specs.Private.Walks.{is_region}
use Rattle.page_core.proofs.Counts.HeldNodes.{nodes_counted, regions_counted, listings_counted, cluts_counted}
use Rattle.page_core.proofs.Regions.OtherSegments.{HaveSameRegions, HaveSameCluts, regions_behind, same_listings, more_cluts}

-- without a fault the nodes suffice
pub nodes_suffice : (profile : Profile) (taken : Taken) (page : Page)
    → composition_fault profile taken page ≡ None → nodes_of taken page ≤ profile.nodes
nodes_suffice profile taken page none = by (ltb profile.nodes (nodes_of taken page)) refl none
  where
    low : (a b : ℕ) → ltb a b ≡ false → b ≤ a
    low a b is = grind (arith, nat_tests)

    by : (over : Bool) → ltb profile.nodes (nodes_of taken page) ≡ over
        → cond over (Some (CompositionFull (nodes_of taken page))) None ≡ None
        → nodes_of taken page ≤ profile.nodes
    by true is none = absurd (cc)
    by false is none = low profile.nodes (nodes_of taken page) is

-- the same regions and CLUTs take as many nodes
pub same_nodes : (one other : Taken) (page : Page) → HaveSameRegions one other → HaveSameCluts one other
    → nodes_of one page ≡ nodes_of other page
same_nodes one other page regions cluts =
    λ i. length page.entries + length (regions.ids i) + same_listings one other regions i + length (cluts.ids i)
    + length (cluts.entries i)

module _ (segments : List Content) (memory : Memory) (whole : IsWholeMemory memory)
    (holds : HoldsSegments segments memory) where
  -- all nodes: those of the page, of what is held, and the free ones
  pub nodes_are : memory.composition.free
      + (length memory.composition.entries + length (region_ids (taken_of segments)) + listings_held (taken_of segments)
      + length (clut_ids (taken_of segments)) + length (table_entries (taken_of segments))) ≡ memory.profile.nodes
  nodes_are =
      ap (λ n. memory.composition.free + n) (sym (nodes_counted segments memory holds)) ∙ whole.counted
      ∙ whole.nodes

  -- where no page has entries, regions that come have room, if the epoch has with what comes behind them
  pub room_for_regions : (mid more : List Content) (page : Page) → memory.composition.entries ≡ []
      → list_any is_region more ≡ false
      → nodes_of (taken_of (more ++ (mid ++ segments))) page ≤ memory.profile.nodes
      → length (region_ids (taken_of (mid ++ segments))) + listings_held (taken_of (mid ++ segments))
      ≤ memory.composition.free + length memory.composition.regions
      + sum_by (λ (kept : KeptRegion). length kept.listings) memory.composition.regions
  room_for_regions mid more page empty none enough =
      let same = regions_behind more (mid ++ segments) none in
      let ids = ap (λ (ids : List ℕ). length ids) same.ids in
      let listings = same_listings (taken_of (more ++ (mid ++ segments))) (taken_of (mid ++ segments)) same in
      let first = more_cluts mid segments in
      let second = more_cluts more (mid ++ segments) in
      let no_entries = ap (λ (entries : List PageEntry). length entries) empty in
      omega (
        arith,
        nodes_are,
        enough,
        ids,
        listings,
        first.ids,
        first.entries,
        second.ids,
        second.entries,
        no_entries,
        regions_counted segments memory holds,
        listings_counted segments memory holds,
      )

  -- CLUTs that come likewise
  pub room_for_cluts : (more : List Content) (page : Page) → memory.composition.entries ≡ []
      → list_any is_region more ≡ false → nodes_of (taken_of (more ++ segments)) page ≤ memory.profile.nodes
      → length (clut_ids (taken_of (more ++ segments))) + length (table_entries (taken_of (more ++ segments)))
      ≤ memory.composition.free + length memory.composition.cluts + length memory.composition.set_entries
  room_for_cluts more page empty none enough =
      let same = regions_behind more segments none in
      let ids = ap (λ (ids : List ℕ). length ids) same.ids in
      let listings = same_listings (taken_of (more ++ segments)) (taken_of segments) same in
      let no_entries = ap (λ (entries : List PageEntry). length entries) empty in
      omega (arith, nodes_are, enough, ids, listings, no_entries, cluts_counted segments memory holds, holds.set_count)

  -- and the entries of a page
  pub room_for_page : (page : Page) → memory.composition.entries ≡ []
      → nodes_of (taken_of segments) page ≤ memory.profile.nodes → length page.entries ≤ memory.composition.free
  room_for_page page empty enough =
      let no_entries = ap (λ (entries : List PageEntry). length entries) empty in
      omega (arith, nodes_are, enough, no_entries)

  -- with the page in place of none as many nodes are free as it leaves
  pub free_after_page : (page : Page) → memory.composition.entries ≡ []
      → nodes_of (taken_of segments) page ≤ memory.profile.nodes
      → memory.composition.free + length memory.composition.entries - length page.entries
      ≡ memory.profile.nodes - nodes_of (taken_of segments) page
  free_after_page page empty enough =
      let no_entries = ap (λ (entries : List PageEntry). length entries) empty in
      omega (arith, nodes_are, enough, no_entries)
