use Rattle.std.proofs.Common.{◌<◌, length, arith}
use Rattle.page_pair.proofs.UnitLaws.{even_many, is_stop, made_all, made_more}
use Rattle.page_pair.proofs.units.units_of.Goals as goal

pub loop-place-preserved : goal.loop-place-preserved
loop-place-preserved c =
    let inside : c.loop-place.place < length c.args.two.now =
    omega (arith, c.loop-place-test.true, even_many c.args.one.now c.args.two.now c.requires.even) in
    made_more c.args.pages c.args.first.now.script.now c.args.second.now.script.now c.args.one.now c.args.two.now
    c.loop-place.place c.index-one-place.result c.index-two-place.result c.in-Ok.unit c.loop-place.made
    c.push.new.self c.loop-place-test.true inside c.index-one-place.is c.index-two-place.is c.in-Ok.ensures.unit
    c.in-Ok-push.ensures.loads c.in-Ok-push.ensures.written c.loop-place.invariant

pub returns-in-Err-clause-stop : goal.returns-in-Err-clause-stop
returns-in-Err-clause-stop c =
    let inside : c.loop-place.place < length c.args.two.now =
    omega (arith, c.loop-place-test.true, even_many c.args.one.now c.args.two.now c.requires.even) in
    is_stop c.args.pages c.args.first.now.script.now c.args.second.now.script.now c.args.one.now c.args.two.now
    c.loop-place.place c.index-one-place.result c.index-two-place.result c.loop-place.made c.in-Err.stop
    c.loop-place-test.true inside c.index-one-place.is c.index-two-place.is c.loop-place.invariant
    c.in-Err.ensures.stop

pub returns-clause-made : goal.returns-clause-made
returns-clause-made c =
    made_all c.args.pages c.args.first.now.script.now c.args.second.now.script.now c.args.one.now c.args.two.now
    c.loop-place.place c.loop-place.made c.loop-place-test.false c.requires.even c.loop-place.invariant
