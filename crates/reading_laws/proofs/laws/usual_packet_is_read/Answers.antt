use Rattle.reading_laws.proofs.UsualPacket.{usual_read, usual_reads}
use Rattle.reading_laws.proofs.laws.usual_packet_is_read.Goals as goal

pub returns-clause-received : goal.returns-clause-received
returns-clause-received c = usual_read c.usual_set_is_shown.ensures

pub returns-clause-contents : goal.returns-clause-contents
returns-clause-contents c = usual_reads
