use Rattle.std.proofs.Common.{◌≡◌, map, take}
use Rattle.page_pair.specs.Private.Writing.{clut_bytes}
use Rattle.page_pair.proofs.cluts.clut_bytes.Given as goal

abbrev pub invariant-loop-sent : goal.invariant-loop-sent
invariant-loop-sent l = l.all.items ≡ map (clut_bytes l.epoch) (take l.sent-index l.cluts)
