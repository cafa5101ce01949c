use Rattle.block_painting.specs.declared.painter.Step.TheVariants.{Deep, Ended}
use Rattle.block_painting.specs.declared.painter.Target.{Target}
use Rattle.block_painting.specs.Private.Pens.{stand_of}
use Rattle.block_painting.proofs.Walks.{walk_goes_on, walk_written, told_of}
use Rattle.block_painting.proofs.painter.paint_block.Goals as goal

pub loop-preserved : goal.loop-preserved
loop-preserved c =
    let target : Target = record { slot = c.args.slot; region = c.args.region; place = c.args.place } in
    walk_goes_on target c.args.store.now c.args.bytes.now c.loop.store c.paint_part.new.store (stand_of c.loop.pen)
    (stand_of c.paint_part.new.pen) c.paint_part.result c.loop.invariant c.paint_part.ensures

pub returns-in-Deep-clause-written : goal.returns-in-Deep-clause-written
returns-in-Deep-clause-written c =
    let target : Target = record { slot = c.args.slot; region = c.args.region; place = c.args.place } in
    let from = stand_of c.loop.pen in
    let to = stand_of c.paint_part.new.pen in
    let next = c.paint_part.new.store in
    let told = told_of c.paint_part.result Deep target c.loop.store from next to c.in-Deep.is c.paint_part.ensures in
    walk_written target c.args.store.now c.args.bytes.now next to
    (walk_goes_on target c.args.store.now c.args.bytes.now c.loop.store next from to c.paint_part.result
    c.loop.invariant c.paint_part.ensures) told.1

pub returns-in-Ended-clause-written : goal.returns-in-Ended-clause-written
returns-in-Ended-clause-written c =
    let target : Target = record { slot = c.args.slot; region = c.args.region; place = c.args.place } in
    let from = stand_of c.loop.pen in
    let to = stand_of c.paint_part.new.pen in
    let next = c.paint_part.new.store in
    let told = told_of c.paint_part.result Ended target c.loop.store from next to c.in-Ended.is c.paint_part.ensures in
    walk_written target c.args.store.now c.args.bytes.now next to
    (walk_goes_on target c.args.store.now c.args.bytes.now c.loop.store next from to c.paint_part.result
    c.loop.invariant c.paint_part.ensures) (told target.region)
