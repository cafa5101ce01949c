use Rattle.command_text.proofs.PictureLaws.{rows_more, row_within}
use Rattle.command_text.proofs.picture_text.put_rows.Goals as goal

pub row_at-requires : goal.row_at-requires
row_at-requires g c = row_within c.args.width c.args.height c.loop-y.y _ c.loop-y-test.true c.requires.plane

pub loop-y-preserved : goal.loop-y-preserved
loop-y-preserved g c =
    rows_more _ _ _ c.args.buffer.now c.loop-y.buffer c.put_row.new.buffer c.args.width c.loop-y.y c.args.plane.now
    c.row_at.result.now c.loop-y.invariant c.row_at.ensures.row c.put_row.ensures
