use Rattle.picture_fields.specs.Private.Rows.{room_of}
use Rattle.picture_fields.proofs.SizeLaws.{rows_more, room_more, rows_all}
use Rattle.picture_fields.proofs.sizes.rows_size.Goals as goal

pub loop-row-preserved : goal.loop-row-preserved
loop-row-preserved c =
    let l = c.loop-row in
    let m =
    rows_more c.args.depth l.row-iterator c.next.new.self c.args.rows c.in-Some.row.now l.size c.row_size.result
    l.invariant.rows c.in-Some.ensures.steps c.row_size.ensures.size c.row_size.ensures.short l.invariant.short
    l.invariant.sum in
    record {
      rows = m.0;
      short = m.1;
      room =
          room_more l.row-iterator c.next.new.self c.in-Some.row.now l.size c.row_size.result (room_of c.args.rows)
          c.in-Some.ensures.steps c.row_size.ensures.short l.invariant.room;
      sum = m.2;
    }

pub returns-clause-sizes : goal.returns-clause-sizes
returns-clause-sizes c =
    rows_all c.args.depth c.loop-row.row-iterator c.args.rows c.loop-row.size c.in-None.ensures.steps.0
    c.loop-row.invariant.sum
