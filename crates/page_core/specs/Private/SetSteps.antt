-- What the segments of a set change in the page memory, step by step, in the order in which they are handled (EN 300
-- 743, clause 5.1).
use Rattle.std.specs.Prelude.{◌≡◌, ◌-◌, true, List, ◌∷◌, ◌++◌, filter, reverse}
use Rattle.stream_syntax.specs.Segments.{Page}
use Rattle.decoder_model.specs.Nodes.{nodes_of, pixels_used}
use Rattle.decoder_model.specs.Readings.{Content}
use Rattle.decoder_model.specs.Taken.{segments_of, taken_of}
use Rattle.page_core.specs.Composition.{Composition}
use Rattle.page_core.specs.Memory.{Memory, HoldsSegments}
use Rattle.page_core.specs.Private.RegionTests.{before_regions}
use Rattle.page_core.specs.Private.Walks.{is_region, is_clut}

-- the segments of an epoch, and those of a set before its CLUTs, the latest first
abbrev pub before_cluts : List Content → List Content → List Content
before_cluts older set = reverse (filter is_region set) ++ before_regions older set

-- the segments of an epoch, and those of a set before its objects, the latest first
abbrev pub before_objects : List Content → List Content → List Content
before_objects older set = reverse (filter is_clut set) ++ before_cluts older set

-- what painting of objects leaves as it was: all but the regions with their listings, and the codes of pixels
pub record KeepsButObjects (old new : Memory) : Type 0 where
  pub profile : new.profile ≡ old.profile
  pub page : new.page ≡ old.page
  pub anchor : new.anchor ≡ old.anchor
  pub last : new.last ≡ old.last
  pub known : new.known ≡ old.known
  pub time_out : new.time_out ≡ old.time_out
  pub display : new.display ≡ old.display
  pub size : new.composition.size ≡ old.composition.size
  pub entries : new.composition.entries ≡ old.composition.entries
  pub free : new.composition.free ≡ old.composition.free
  pub cluts : new.composition.cluts ≡ old.composition.cluts
  pub set_entries : new.composition.set_entries ≡ old.composition.set_entries
  pub inks : new.inks ≡ old.inks
  pub store_size : new.store.size ≡ old.store.size
  pub store_free : new.store.free ≡ old.store.free

-- the same memory with another composition
abbrev pub with_composition : Composition → Memory → Memory
with_composition composition memory = record memory { composition = composition }

-- what a page composition leaves as it was: all but the composition, which gets the page's entries, the time-out, and
-- whether an epoch is known
pub record KeepsButPage (old new : Memory) : Type 0 where
  pub profile : new.profile ≡ old.profile
  pub page : new.page ≡ old.page
  pub anchor : new.anchor ≡ old.anchor
  pub last : new.last ≡ old.last
  pub display : new.display ≡ old.display
  pub store : new.store ≡ old.store

-- an epoch is known, and the memory has what its sets give, with the page of the last of them
pub record HasEpoch (set : List Content) (before : List (List Content)) (page : Page) (memory : Memory) : Type 0 where
  pub known : memory.known ≡ true
  pub holds : HoldsSegments (segments_of (set ∷ before)) memory
  pub time_out : memory.time_out ≡ page.time_out
  pub entries : memory.composition.entries ≡ page.entries
  pub free_nodes : memory.composition.free
      ≡ memory.profile.nodes - nodes_of (taken_of (segments_of (set ∷ before))) page
  pub free_pixels : memory.store.free ≡ memory.profile.pixels - pixels_used (taken_of (segments_of (set ∷ before)))
