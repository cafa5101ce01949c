use Rattle.std.proofs.Common.{◌*◌, arith}
use Rattle.slot_stream.proofs.PieceLaws.{chunk_is}
use Rattle.slot_stream.proofs.pieces.chunk.Goals as goal

pub returns-clause-chunk : goal.returns-clause-chunk
returns-clause-chunk c = chunk_is c.args.unit.now (184 * c.args.number) c.min-end.result (omega arith) c.min-end.ensures
