-- What the unit that a packet ended adds.
use Rattle.std.proofs.Common.{◌∙◌, ap}
use Rattle.set_reader.specs.Private.Ends.{end_drops, end_parts}
use Rattle.set_reader.proofs.units.take_ended.Goals as goal

pub returns-in-Some-clause-gathers : goal.returns-in-Some-clause-gathers
returns-in-Some-clause-gathers c arrivals given place stands =
    rw c.in-Some.is (c.take_unit.ensures.gathers arrivals given place stands)

pub returns-in-Some-clause-end : goal.returns-in-Some-clause-end
returns-in-Some-clause-end c arrivals given place stands =
    let ended = c.take_unit.ensures.end arrivals given place stands in
    rw c.in-Some.is (record {
      dropped = ap end_drops ended.1 ∙ ended.2.dropped;
      before = ap end_parts ended.1 ∙ ended.2.before;
    })
