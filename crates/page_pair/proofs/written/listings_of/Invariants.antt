use Rattle.std.proofs.Common.{◌≡◌, map, take}
use Rattle.shown_plan.specs.NamedSets.{named_listing}
use Rattle.page_pair.specs.PairSets.{names_of}
use Rattle.page_pair.proofs.written.listings_of.Given as goal

abbrev pub invariant-loop-place : goal.invariant-loop-place
invariant-loop-place l =
    l.listings.items ≡ map (named_listing (names_of l.shared) l.epoch) (take l.place-index l.cues)
