use Rattle.std.proofs.Common.{arith}
use Rattle.pes_packets.proofs.Answered.{gives_found, gives_only, gives_fault}
use Rattle.pes_packets.proofs.reading.read_pes.Goals as goal

pub returns-clause-found : goal.returns-clause-found
returns-clause-found c =
    gives_found _ _ c.read.result c.args.bytes.now (λ i. omega (arith, c.type_inv.bytes i)) c.read.ensures.gives

pub returns-clause-only : goal.returns-clause-only
returns-clause-only c = gives_only _ _ c.read.result c.args.bytes.now c.read.ensures.gives

pub returns-clause-fault : goal.returns-clause-fault
returns-clause-fault c = gives_fault _ c.read.result c.args.bytes.now c.read.ensures.gives
