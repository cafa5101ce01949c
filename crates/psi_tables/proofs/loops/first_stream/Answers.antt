use Rattle.std.proofs.Common.{refl}
use Rattle.psi_tables.proofs.LoopLaws.{stream_first}
use Rattle.psi_tables.proofs.loops.first_stream.Goals as goal

pub returns : goal.returns
returns c =
    stream_first c.args.bytes.now _ c.twelve_at-end.result c.twelve_at-end.ensures c.if-bytes-lt-STREAM_HEAD.false
    c.if-bytes-end.false
    (refl, c.thirteen_at.ensures, refl)
