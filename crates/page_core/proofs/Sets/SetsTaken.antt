-- A set of an epoch up to its objects, step by step.
use Rattle.std.proofs.Common.{◌≡◌, ◌∙◌, sym, ap, subst, ℕ, ◌-◌, ◌≤◌, List, [], ◌∷◌, ◌++◌, filter, reverse, None}
use Rattle.sub_base.specs.declared.profile.Profile.{Profile}
use Rattle.stream_syntax.specs.Segments.{Page}
use Rattle.decoder_model.specs.Faults.{composition_fault, pixels_full}
use Rattle.decoder_model.specs.Nodes.{nodes_of, pixels_used}
use Rattle.decoder_model.specs.Readings.{Content}
use Rattle.decoder_model.specs.Taken.{segments_of, taken_of}
use Rattle.pixel_store.specs.Regions.{Regions}
use Rattle.page_core.specs.Private.Accepted.{IsBefore}
use Rattle.page_core.specs.Private.ClutSteps.{HasRoomForCluts, KeepsButColours}
use Rattle.page_core.specs.Composition.{with_entries}
use Rattle.page_core.specs.Handed.{AreContents}
use Rattle.page_core.specs.Private.Judging.{fault_before_nodes}
use Rattle.page_core.specs.Memory.{Memory, IsWholeMemory, HoldsSegments, showing}
use Rattle.page_core.specs.Private.RegionSteps.{AreRegionsValid, KeepsButRegions}
use Rattle.page_core.specs.Private.RegionTests.{AreApart, before_regions, first_in}
use Rattle.page_core.specs.Private.SetSteps.{before_cluts, before_objects, with_composition, KeepsButPage}
use Rattle.page_core.specs.Private.Sound.{IsSound}
use Rattle.page_core.specs.Private.Walks.{is_region, is_clut, is_object}
use Rattle.page_core.proofs.Regions.OtherSegments.{regions_behind, cluts_behind, same_pixels}
use Rattle.page_core.proofs.Counts.PixelRoom.{room_in_order, used_before_regions}
use Rattle.page_core.proofs.Regions.RegionLaws.{changed_in_order}
use Rattle.page_core.proofs.Sets.SetOrder.{no_regions_in_cluts, no_regions_in_objects, no_cluts_in_objects, set_in_order}
use Rattle.page_core.proofs.Counts.SetRoom.{nodes_suffice, same_nodes, room_for_regions, room_for_cluts}
use Rattle.page_core.proofs.Handed.SetVerdicts.{tests_passed}

-- what is held does not ask for the entries of the page
pub holds_without_page : (segments : List Content) (memory : Memory) → HoldsSegments segments memory
    → HoldsSegments segments (with_composition (with_entries [] memory.composition) memory)
holds_without_page segments memory holds = record {
  display = holds.display;
  region_ids = holds.region_ids;
  heads = holds.heads;
  listings = holds.listings;
  pixels = holds.pixels;
  clut_ids = holds.clut_ids;
  versions = holds.versions;
  inks = holds.inks;
  set_entries = holds.set_entries;
  set_count = holds.set_count;
}

-- the nodes of an epoch with a set are those of its segments before the objects; the pixels are those of its regions
nodes_before_objects : (set : List Content) (before : List (List Content)) (page : Page)
    → nodes_of (taken_of (segments_of (set ∷ before))) page
    ≡ nodes_of (taken_of (before_objects (segments_of before) set)) page
nodes_before_objects set before page =
    let base = before_objects (segments_of before) set in
    ap (λ segments. nodes_of (taken_of segments) page) (set_in_order set before)
    ∙ same_nodes (taken_of (reverse (filter is_object set) ++ base)) (taken_of base) page
    (regions_behind (reverse (filter is_object set)) base (no_regions_in_objects set))
    (cluts_behind (reverse (filter is_object set)) base (no_cluts_in_objects set))

pixels_before_cluts : (set : List Content) (before : List (List Content))
    → pixels_used (taken_of (before_cluts (segments_of before) set))
    ≡ pixels_used (taken_of (segments_of (set ∷ before)))
pixels_before_cluts set before =
    let base = before_cluts (segments_of before) set in
    let mid = reverse (filter is_clut set) ++ base in
    sym (
    ap (λ segments. pixels_used (taken_of segments)) (set_in_order set before)
    ∙ same_pixels (taken_of (reverse (filter is_object set) ++ mid)) (taken_of mid)
    (regions_behind (reverse (filter is_object set)) mid (no_regions_in_objects set))
    ∙ same_pixels (taken_of mid) (taken_of base)
    (regions_behind (reverse (filter is_clut set)) base (no_regions_in_cluts set))
    )

-- the display and the regions of a set are taken; no page has entries
pub record HasRegions (set : List Content) (before : List (List Content)) (page : Page)
    (first memory : Memory) : Type 0 where
  pub holds : HoldsSegments (before_cluts (segments_of before) set) memory
  pub pixels : memory.store.free ≡ memory.profile.pixels - pixels_used (taken_of (segments_of (set ∷ before)))
  pub empty : memory.composition.entries ≡ []
  pub enough : nodes_of (taken_of (before_objects (segments_of before) set)) page ≤ memory.profile.nodes
  pub profile : memory.profile ≡ first.profile

module _ (set : List Content) (before : List (List Content)) (page : Page) (bytes : List ℕ)
    (sound : IsSound set bytes) where
  -- what the regions ask
  regions_right : (first memory : Memory) → IsBefore before first
      → None ≡ fault_before_nodes first.profile before set page
      → nodes_of (taken_of (before_objects (segments_of before) set)) page ≤ first.profile.nodes
      → memory.profile ≡ first.profile → memory.store ≡ first.store → memory.composition.entries ≡ []
      → IsWholeMemory memory → HoldsSegments (before_regions (segments_of before) set) memory
      → AreRegionsValid (before_regions (segments_of before) set) set memory
  regions_right first memory is_before none enough profile store empty whole holds =
      let passed = tests_passed first.profile before set page (sym none) in
      record {
        changed = sym (changed_in_order (segments_of before) set) ∙ passed.changed;
        room =
            ap (λ (p : Profile). first_in (pixels_full p) (before_regions (segments_of before) set)
            (filter is_region set)) profile ∙ sym (room_in_order first.profile (segments_of before) set)
            ∙ passed.room;
        free =
            ap (λ (s : Regions). s.free) store ∙ is_before.free
            ∙ (λ i. (sym profile i).pixels - sym (used_before_regions (segments_of before) set) i);
        nodes =
            room_for_regions (before_regions (segments_of before) set) memory whole holds
            (reverse (filter is_region set)) (reverse (filter is_clut set)) page empty (no_regions_in_cluts set)
            (subst (λ (p : Profile). nodes_of (taken_of (before_objects (segments_of before) set)) page ≤ p.nodes)
            (sym profile) enough);
      }

  pub regions_taken : (first shown cleared memory : Memory) → IsBefore before first
      → None ≡ fault_before_nodes first.profile before set page
      → None ≡ composition_fault first.profile (taken_of (segments_of (set ∷ before))) page
      → HoldsSegments (before_regions (segments_of before) set) shown → shown ≡ showing shown.display first
      → cleared ≡ with_composition (with_entries [] shown.composition) shown → IsWholeMemory cleared
      → ((older set : List Content) → HoldsSegments older cleared → AreContents set bytes
      → AreApart [] (filter is_region set) → AreRegionsValid older set cleared
      → HoldsSegments (reverse (filter is_region set) ++ older) memory)
      → ((older set : List Content) → HoldsSegments older cleared → AreContents set bytes
      → AreApart [] (filter is_region set) → AreRegionsValid older set cleared
      → memory.store.free
      ≡ memory.profile.pixels - pixels_used (taken_of (reverse (filter is_region set) ++ older)))
      → KeepsButRegions cleared memory → HasRegions set before page first memory
  regions_taken first shown cleared memory is_before none room held shown_is cleared_is whole taken pixels rest =
      let base = before_regions (segments_of before) set in
      let profile : cleared.profile ≡ first.profile =
      ap (λ (m : Memory). m.profile) cleared_is ∙ ap (λ (m : Memory). m.profile) shown_is in
      let store : cleared.store ≡ first.store =
      ap (λ (m : Memory). m.store) cleared_is ∙ ap (λ (m : Memory). m.store) shown_is in
      let empty : cleared.composition.entries ≡ [] = ap (λ (m : Memory). m.composition.entries) cleared_is in
      let holds : HoldsSegments base cleared =
      subst (HoldsSegments base) (sym cleared_is) (holds_without_page base shown held) in
      let enough : nodes_of (taken_of (before_objects (segments_of before) set)) page ≤ first.profile.nodes =
      subst (λ (n : ℕ). n ≤ first.profile.nodes) (nodes_before_objects set before page)
      (nodes_suffice first.profile (taken_of (segments_of (set ∷ before))) page (sym room)) in
      let right = regions_right first cleared is_before none enough profile store empty whole holds in
      record {
        holds = taken base set holds sound.contents sound.apart right;
        pixels =
            pixels base set holds sound.contents sound.apart right
            ∙ ap (λ n. memory.profile.pixels - n) (pixels_before_cluts set before);
        empty = rest.entries ∙ empty;
        enough =
            subst (λ (p : Profile). nodes_of (taken_of (before_objects (segments_of before) set)) page ≤ p.nodes)
            (sym (rest.profile ∙ profile)) enough;
        profile = rest.profile ∙ profile;
      }

-- all but the objects of a set is taken
pub record HasPage (set : List Content) (before : List (List Content)) (page : Page) (memory : Memory) : Type 0 where
  pub holds : HoldsSegments (before_objects (segments_of before) set) memory
  pub entries : memory.composition.entries ≡ page.entries
  pub free : memory.composition.free ≡ memory.profile.nodes - nodes_of (taken_of (segments_of (set ∷ before))) page
  pub pixels : memory.store.free ≡ memory.profile.pixels - pixels_used (taken_of (segments_of (set ∷ before)))

pub page_taken : (set : List Content) (before : List (List Content)) (page : Page) (bytes : List ℕ)
    → IsSound set bytes → (first old coloured memory : Memory) → HasRegions set before page first old
    → IsWholeMemory old
    → ((older set : List Content) → HoldsSegments older old → AreContents set bytes → HasRoomForCluts older set old
    → HoldsSegments (reverse (filter is_clut set) ++ older) coloured) → KeepsButColours old coloured
    → ((segments : List Content) → HoldsSegments segments coloured → HoldsSegments segments memory)
    → ((segments : List Content) → HoldsSegments segments coloured → coloured.composition.entries ≡ []
    → nodes_of (taken_of segments) page ≤ coloured.profile.nodes
    → memory.composition.entries ≡ page.entries)
    → ((segments : List Content) → HoldsSegments segments coloured → coloured.composition.entries ≡ []
    → nodes_of (taken_of segments) page ≤ coloured.profile.nodes
    → memory.composition.free ≡ memory.profile.nodes - nodes_of (taken_of segments) page)
    → KeepsButPage coloured memory → HasPage set before page memory
page_taken set before page bytes sound first old coloured memory has whole taken rest still entries free kept =
    let base = before_cluts (segments_of before) set in
    let room : HasRoomForCluts base set old =
    room_for_cluts base old whole has.holds (reverse (filter is_clut set)) page has.empty (no_regions_in_cluts set)
    has.enough in
    let holds : HoldsSegments (before_objects (segments_of before) set) coloured =
    taken base set has.holds sound.contents room in
    let empty : coloured.composition.entries ≡ [] = rest.entries ∙ has.empty in
    let enough : nodes_of (taken_of (before_objects (segments_of before) set)) page ≤ coloured.profile.nodes =
    subst (λ (p : Profile). nodes_of (taken_of (before_objects (segments_of before) set)) page ≤ p.nodes)
    (sym rest.profile) has.enough in
    record {
      holds = still (before_objects (segments_of before) set) holds;
      entries = entries (before_objects (segments_of before) set) holds empty enough;
      free =
          free (before_objects (segments_of before) set) holds empty enough
          ∙ ap (λ n. memory.profile.nodes - n) (sym (nodes_before_objects set before page));
      pixels = ap (λ (s : Regions). s.free) (kept.store ∙ rest.store) ∙ has.pixels
          ∙ ap (λ (p : Profile). p.pixels - pixels_used (taken_of (segments_of (set ∷ before))))
          (sym (kept.profile ∙ rest.profile));
    }
