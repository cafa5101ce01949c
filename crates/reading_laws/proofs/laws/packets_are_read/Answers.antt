use Rattle.reading_laws.proofs.PacketsRead.{packets_read}
use Rattle.reading_laws.proofs.laws.packets_are_read.Goals as goal

pub returns : goal.returns
returns c = packets_read
