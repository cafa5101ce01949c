use Rattle.std.proofs.Common.{◌≡◌, ◌^◌, ◌*◌, ◌%◌, arith}
use Rattle.std.proofs.lemmas.Nat.{one_shl}
use Rattle.pixel_store.specs.Private.Painting.{splice}
use Rattle.pixel_store.proofs.Fields.{splice_small}
use Rattle.pixel_store.proofs.byte.spliced.Goals as goal

pub overflow_cast-result : goal.overflow_cast-result
unfolding splice
overflow_cast-result c =
    let high : 1 * 2 ^ c.args.high % 4294967296 ≡ 2 ^ c.args.high = one_shl c.args.high 32 (omega arith) in
    let low : 1 * 2 ^ c.args.low % 4294967296 ≡ 2 ^ c.args.low = one_shl c.args.low 32 (omega arith) in
    let small =
    splice_small c.args.high c.args.low c.args.pattern c.args.byte c.requires.order c.requires.high (omega arith) in
    rw (c.from-byte.ensures, c.from.ensures, high, low) (omega (arith, small))
