use Rattle.std.proofs.Common.{◌<◌, ℕ, get_or, take}
use Rattle.sub_base.specs.Depth.{code_count}
use Rattle.cue_list.specs.Planes.{colour_of, IsEntryAfter}
use Rattle.cue_list.proofs.painting.entries_at.Given as goal

abbrev pub invariant-loop-row : goal.invariant-loop-row
invariant-loop-row l = (entry : ℕ) → entry < code_count l.depth →
    IsEntryAfter l.clut l.depth l.tick entry (take l.row-index l.colours) (colour_of l.entries entry)
    (get_or l.ticks entry 0)
