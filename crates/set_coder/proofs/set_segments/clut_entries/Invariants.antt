use Rattle.std.proofs.Common.{◌≡◌, take, map}
use Rattle.set_coder.specs.SetSegments.{clut_entry_of}
use Rattle.set_coder.proofs.set_segments.clut_entries.Given as goal

abbrev pub invariant-loop-place : goal.invariant-loop-place
invariant-loop-place l = l.entries.items ≡ map (clut_entry_of l.epoch) (take l.place-index l.rows)
