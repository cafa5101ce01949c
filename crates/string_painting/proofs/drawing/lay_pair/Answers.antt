use Rattle.string_painting.proofs.Pairs.{pair_laid}
use Rattle.string_painting.proofs.drawing.lay_pair.Goals as goal

pub returns : goal.returns
returns c =
    pair_laid c.args.brush c.args.table.now c.args.place c.args.first c.args.second c.region_code-before.result
    c.region_code-behind.result c.args.row.now c.paint_pair.new.row c.requires.seen c.requires.room
    c.region_code-before.ensures.code c.region_code-behind.ensures.code c.paint_pair.ensures
