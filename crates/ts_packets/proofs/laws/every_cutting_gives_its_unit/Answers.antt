use Rattle.ts_packets.proofs.AnyCuttingLemmas.{any_cutting, nothing_lost}
use Rattle.ts_packets.proofs.laws.every_cutting_gives_its_unit.Goals as goal

pub returns-clause-whole : goal.returns-clause-whole
returns-clause-whole c = any_cutting

pub returns-clause-sound : goal.returns-clause-sound
returns-clause-sound c = nothing_lost
