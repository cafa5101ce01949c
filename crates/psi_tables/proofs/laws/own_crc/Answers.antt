use Rattle.psi_tables.proofs.OwnCrc.{written_crc}
use Rattle.psi_tables.proofs.laws.own_crc.Goals as goal

pub returns : goal.returns
returns c = written_crc
