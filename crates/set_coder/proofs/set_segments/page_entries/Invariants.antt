use Rattle.std.proofs.Common.{◌≡◌, take, map}
use Rattle.set_coder.specs.SetSegments.{page_entry_of}
use Rattle.set_coder.proofs.set_segments.page_entries.Given as goal

abbrev pub invariant-loop-id : goal.invariant-loop-id
invariant-loop-id l = l.entries.items ≡ map (page_entry_of l.epoch) (take l.id-index l.shown)
