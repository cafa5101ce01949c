use Rattle.page_pair.specs.PairSets.{pair_segments}
use Rattle.page_pair.proofs.UnitLaws.{pair_is_written, pair_sides, pair_stops}
use Rattle.page_pair.proofs.units.written_pair.Goals as goal

pub returns-in-Ok-pair_set-clause-written : goal.returns-in-Ok-pair_set-clause-written
returns-in-Ok-pair_set-clause-written c =
    let first = c.args.first.now.script.now in
    let second = c.args.second.now.script.now in
    pair_is_written c.args.pages first second c.args.one.now c.args.two.now
    (pair_segments c.args.pages c.in-Ok.own c.in-Ok-of.other)
    (pair_sides c.args.pages first second c.args.one.now c.args.two.now c.in-Ok.own c.in-Ok-of.other
    c.in-Ok.ensures.ready c.in-Ok.ensures.script c.in-Ok.ensures.set c.in-Ok-of.ensures.ready
    c.in-Ok-of.ensures.script c.in-Ok-of.ensures.set)
    c.in-Ok-pair_set.written c.in-Ok-pair_set.ensures.written c.in-Ok-pair_set.ensures.short

pub returns-clause-stop : goal.returns-clause-stop
returns-clause-stop c =
    let first = c.args.first.now.script.now in
    let second = c.args.second.now.script.now in
    pair_stops c.args.pages first second c.args.one.now c.args.two.now
    (pair_segments c.args.pages c.in-Ok.own c.in-Ok-of.other)
    (pair_sides c.args.pages first second c.args.one.now c.args.two.now c.in-Ok.own c.in-Ok-of.other
    c.in-Ok.ensures.ready c.in-Ok.ensures.script c.in-Ok.ensures.set c.in-Ok-of.ensures.ready
    c.in-Ok-of.ensures.script c.in-Ok-of.ensures.set)
    c.in-Err.stop c.in-Err.ensures.stop
