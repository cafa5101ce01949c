use Rattle.std.proofs.Common.{arith}
use Rattle.string_painting.proofs.Bytes.{cut_small}
use Rattle.string_painting.proofs.packing.joined.Goals as goal

pub overflow_cast-result : goal.overflow_cast-result
overflow_cast-result c =
    let small = cut_small c.args.depth c.args.codes c.args.front c.args.back c.requires (omega arith) in
    rw (c.from-2.ensures, c.from-3.ensures, c.from.ensures, c.bits.ensures) (omega (arith, small))
