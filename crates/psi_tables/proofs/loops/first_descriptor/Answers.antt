use Rattle.std.proofs.Common.{refl}
use Rattle.psi_tables.proofs.LoopLaws.{descriptor_first}
use Rattle.psi_tables.proofs.loops.first_descriptor.Goals as goal

pub returns : goal.returns
returns c =
    descriptor_first c.args.bytes.now _ c.from-end.result c.from-end.ensures c.if-bytes-lt-DESCRIPTOR_HEAD.false
    c.if-bytes-end.false
    (refl, refl)
