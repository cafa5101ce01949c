-- The rows of a band.
use Rattle.band_draw.proofs.Parts.{first_row, row_count, row_more, all_rows}
use Rattle.band_draw.proofs.drawing.band_into.Goals as goal
use Rattle.std.proofs.Common.{arith}

pub overflow_cast-first : goal.overflow_cast-first
overflow_cast-first c =
    let first =
    first_row c.args.scene.now c.args.start _ c.width-width.result c.requires c.width-width.ensures
    c.if-width-gt0.true c.requires in
    let rows =
    row_count c.args.scene.now c.args.start _ c.width-width.result c.requires c.width-width.ensures
    c.if-width-gt0.true in
    omega arith

pub row_into-requires-clause-y : goal.row_into-requires-clause-y
row_into-requires-clause-y c =
    let first =
    first_row c.args.scene.now c.args.start _ c.width-width.result c.requires c.width-width.ensures
    c.if-width-gt0.true c.requires in
    let rows =
    row_count c.args.scene.now c.args.start _ c.width-width.result c.requires c.width-width.ensures
    c.if-width-gt0.true in
    omega arith

pub loop-i-preserved : goal.loop-i-preserved
loop-i-preserved c =
    row_more c.args.scene.now c.args.start _ c.width-width.result c.loop-i.i c.requires c.loop-i.part c.row_into.new.row
    c.width-width.ensures c.if-width-gt0.true c.loop-i.auto.part c.loop-i-test.true c.row_into.auto.row
    c.row_into.ensures c.loop-i.invariant

pub returns-after-loop-i : goal.returns-after-loop-i
returns-after-loop-i c k low =
    c.loop-i.invariant k
    (all_rows c.args.scene.now c.args.start _ c.width-width.result c.loop-i.i k c.requires c.width-width.ensures
    c.if-width-gt0.true c.loop-i-test.false (omega arith))
