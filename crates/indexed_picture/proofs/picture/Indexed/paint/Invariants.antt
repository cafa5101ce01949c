use Rattle.sub_base.specs.Picture.{picture_of}
use Rattle.indexed_picture.proofs.PaintingLaws.{RowsPainted}
use Rattle.indexed_picture.proofs.picture.Indexed.paint.Given as goal

abbrev pub invariant-loop-row : goal.invariant-loop-row
invariant-loop-row l = RowsPainted l.fn.self l.over l.x l.y l.see_through l.row
    (picture_of l.self-inside.width l.self-inside.height l.self-inside.depth l.self-inside.codes.items)
