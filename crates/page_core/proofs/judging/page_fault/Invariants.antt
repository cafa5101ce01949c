-- No region so far is unknown.
use Rattle.std.proofs.Common.{◌≡◌, ◌++◌, List, drop, reverse}
use Rattle.sub_base.specs.Lists.{first_given}
use Rattle.decoder_model.specs.Contents.{in_order}
use Rattle.decoder_model.specs.Faults.{page_fault, unknown_region}
use Rattle.decoder_model.specs.Readings.{Content}
use Rattle.segments.specs.Contents.{page_value}
use Rattle.page_core.specs.Private.Judging.{AreDefined, KnowsRegions}
use Rattle.page_core.proofs.judging.page_fault.Given as goal

abbrev pub invariant-loop-i : goal.invariant-loop-i
invariant-loop-i l = (set older : List Content) → KnowsRegions older l.composition → AreDefined set l.defined
    → page_fault (reverse (in_order set) ++ older) (page_value l.page)
    ≡ first_given (unknown_region (reverse (in_order set) ++ older)) (drop l.i (page_value l.page).entries)
