-- What a walk over the sub-blocks of a block has painted, and what is left to paint.
use Rattle.std.specs.Prelude.{◌≡◌, ℕ, ◌+◌, ◌-◌, ◌<◌, ◌≤◌, List, [], length, Option, Some}
use Rattle.std.specs.Option.{option_map}
use Rattle.sub_base.specs.declared.depth.Depth.{Depth}
use Rattle.sub_base.specs.declared.depth.Depth.TheVariants.{Eight}
use Rattle.stream_syntax.specs.PixelBlocks.{Part, AreParts, runs_after}
use Rattle.stream_syntax.specs.declared.pixel_run.Run.{Run}
use Rattle.decoder_model.specs.Faults.{too_deep_at}
use Rattle.decoder_model.specs.Pixels.{code_by_field}
use Rattle.pixel_store.specs.Regions.{Regions, IsPlaced, KeepsOthers, region_at}
use Rattle.block_painting.specs.Writing.{IsWritten}
use Rattle.block_painting.specs.declared.place.FieldPlace.{FieldPlace}
use Rattle.block_painting.specs.declared.painter.Step.{Step}
use Rattle.block_painting.specs.declared.painter.Step.TheVariants.{Passed, Deep, Ended}
use Rattle.block_painting.specs.declared.painter.Target.{Target}
use Rattle.block_painting.specs.Private.Pens.{Stand, IsBehind}

-- the slot has a region of the depth
pub record IsTarget (target : Target) (store : Regions) : Type 0 where
  pub placed : IsPlaced store target.slot
  pub depth : target.region ≡ (region_at store target.slot).depth

-- the code that the runs of a field put in a column and a row
abbrev pub code_by_runs : FieldPlace → List Run → ℕ → ℕ → Option ℕ
code_by_runs place runs x y = code_by_field place.see_through place.listing place.first_row x y runs

-- the pen stands between some sub-blocks of a block and those that are left
pub record StandsAt (target : Target) (before left : List Part) (stand : Stand) : Type 0 where
  pub behind : IsBehind target.place before stand
  pub whole : AreParts target.region left stand.rest

-- Behind more sub-blocks: whatever those that are left write behind what is there now is what all of them write.
pub record HasPainted (target : Target) (before parts : List Part) (old new : Regions) (stand : Stand) : Type 0 where
  pub passed : List Part
  pub left : List Part
  pub stands : StandsAt target passed left stand
  pub whole : (end : Regions)
      → IsWritten target.slot (code_by_runs target.place (runs_after target.region passed left)) new end
      → IsWritten target.slot (code_by_runs target.place (runs_after target.region before parts)) old end

-- from one place of a block to a later one, some sub-blocks are painted, whichever they are
pub record Paints (target : Target) (old : Regions) (from : Stand) (new : Regions) (to : Stand) : Type 0 where
  pub others : KeepsOthers target.slot old new
  pub painted : (before parts : List Part) → StandsAt target before parts from
      → HasPainted target before parts old new to

-- From some bytes of a block to those that are left of them, strings that are not too deep for the region were passed:
-- the first one that is stands among those that are left.
pub record HasPassed (region : Depth) (bytes rest : List ℕ) : Type 0 where
  pub within : length rest ≤ length bytes
  pub shallow : (parts : List Part) → AreParts Eight parts bytes → (left : List Part) × AreParts Eight left rest
      × (too_deep_at region parts
      ≡ option_map (λ place. (length bytes - length rest) + place) (too_deep_at region left))

-- where a step ended: behind one sub-block more; before a string that is too deep; or where no sub-block begins
abbrev pub IsToldOf : Step → Depth → List ℕ → List ℕ → Type 0
IsToldOf Passed region from to = length to < length from
IsToldOf Deep region from to = (0 < length to) × ((parts : List Part) → AreParts region parts to → parts ≡ [])
    × ((parts : List Part) → AreParts Eight parts to → too_deep_at region parts ≡ Some 0)
IsToldOf Ended region from to = (depth : Depth) (parts : List Part) → AreParts depth parts to → parts ≡ []

-- one step of a walk
pub record Steps (step : Step) (target : Target) (old : Regions) (from : Stand) (new : Regions) (to : Stand)
    : Type 0 where
  pub paints : Paints target old from new to
  pub passes : HasPassed target.region from.rest to.rest
  pub told : IsToldOf step target.region from.rest to.rest
