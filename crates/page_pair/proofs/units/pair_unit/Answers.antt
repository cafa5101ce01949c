use Rattle.std.proofs.Common.{sym, subst}
use Rattle.page_pair.specs.Private.Units.{IsStopAt}
use Rattle.page_pair.proofs.UnitLaws.{is_unit, stops_at}
use Rattle.page_pair.proofs.units.pair_unit.Goals as goal

pub returns-in-Err-clause-stop : goal.returns-in-Err-clause-stop
returns-in-Err-clause-stop c =
    let first = c.args.first.now.script.now in
    let second = c.args.second.now.script.now in
    subst (IsStopAt c.args.pages first second c.args.one.now c.args.two.now c.args.place) (sym c.stop_at.ensures)
    (stops_at c.args.pages first second c.args.one.now c.args.two.now c.args.place c.in-Err.stop
    c.in-Err.ensures.stop)

pub returns-in-Ok-unit_of-clause-unit : goal.returns-in-Ok-unit_of-clause-unit
returns-in-Ok-unit_of-clause-unit c =
    is_unit c.args.pages c.args.first.now.script.now c.args.second.now.script.now c.args.one.now c.args.two.now
    c.in-Ok.written c.in-Ok-unit_of.unit c.painted_in.result c.painted_in-2.result c.in-Ok.ensures.written
    c.requires.first_set.carried.time c.painted_in.ensures.painted c.painted_in.ensures.short
    c.painted_in-2.ensures.painted c.painted_in-2.ensures.short c.in-Ok-unit_of.ensures.load
    c.in-Ok-unit_of.ensures.bytes
