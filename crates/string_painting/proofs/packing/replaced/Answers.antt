use Rattle.std.proofs.Common.{arith}
use Rattle.string_painting.proofs.Bytes.{put_small}
use Rattle.string_painting.proofs.packing.replaced.Goals as goal

pub overflow_cast-result : goal.overflow_cast-result
overflow_cast-result c =
    let p =
    put_small c.args.depth c.args.index c.args.new c.args.byte c.requires.index c.requires.code (omega arith) in
    rw (c.from-2.ensures, c.from-old.ensures, c.code.ensures, c.from-3.ensures, c.from.ensures, c.bits.ensures)
    (omega (arith, p.1, p.2))
