use Rattle.std.proofs.Common.{map, take}
use Rattle.page_pair.specs.PairSets.{on}
use Rattle.page_pair.specs.Private.Writing.{WritesMore, cluts_by}
use Rattle.page_pair.proofs.written.Written.put_cluts.Given as goal

abbrev pub invariant-loop-at : goal.invariant-loop-at
invariant-loop-at l =
    WritesMore (map (on l.page) (cluts_by l.shared l.others l.epoch (take l.at l.cluts))) l.initial.self l.self
