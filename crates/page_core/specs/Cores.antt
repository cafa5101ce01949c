-- What the fields of a core mean.
use Rattle.std.specs.Prelude.{ℕ, ◌<◌, ◌^◌, Bool, List, [], Option, IfSome}
use Rattle.sub_base.specs.declared.colour.Colour.{Colour}
use Rattle.sub_base.specs.declared.profile.Profile.{Profile}
use Rattle.pixel_store.specs.Regions.{Regions}
use Rattle.segments.specs.Contents.{display_value}
use Rattle.segments.specs.declared.display.DisplaySeg.{DisplaySeg}
use Rattle.page_core.specs.Composition.{Composition}
use Rattle.page_core.specs.Private.Marks.{AreMarked}
use Rattle.page_core.specs.Memory.{Memory, IsDisplayOf, IsWholeMemory}
use Rattle.page_core.specs.declared.marks.Mark.{Mark}

-- the memory of a core
abbrev pub memory_of : Profile → ℕ → ℕ → Option ℕ → Bool → ℕ → DisplaySeg → Composition
    → List Colour → Regions → Memory
memory_of profile page anchor last known time_out display composition inks store = record {
  profile = profile;
  page = page;
  anchor = anchor;
  last = last;
  known = known;
  time_out = time_out;
  display = display_value display;
  composition = composition;
  inks = inks;
  store = store;
}

-- what a core keeps to: its memory is whole, its times are below the ends that are set to them, its marks tell which
-- table entries are set, and none of the others is counted; its nodes can be counted together with those that a set
-- needs; and its display is one of the profile
pub record IsCore (memory : Memory) (marks : List Mark) : Type 0 where
  pub whole : IsWholeMemory memory
  pub anchored : memory.anchor < 2 ^ 34
  pub timed : IfSome memory.last (λ time. time < 2 ^ 62)
  pub marked : AreMarked memory.composition.set_entries [] marks
  pub few : memory.profile.nodes < 2 ^ 31
  pub display : IsDisplayOf memory.profile memory.display
