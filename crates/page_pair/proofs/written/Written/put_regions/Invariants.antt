use Rattle.std.proofs.Common.{map, take}
use Rattle.shown_plan.specs.NamedSets.{named_region}
use Rattle.page_pair.specs.PairSets.{names_of, on}
use Rattle.page_pair.specs.Private.Writing.{WritesMore}
use Rattle.page_pair.proofs.written.Written.put_regions.Given as goal

abbrev pub invariant-loop-sent : goal.invariant-loop-sent
invariant-loop-sent l =
    WritesMore (map (on l.page) (map (named_region (names_of l.shared) l.epoch) (take l.sent-index l.regions)))
    l.initial.self l.self
