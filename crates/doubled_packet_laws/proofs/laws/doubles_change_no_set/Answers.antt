use Rattle.doubled_packet_laws.proofs.Copies.{sets_doubled}
use Rattle.doubled_packet_laws.proofs.laws.doubles_change_no_set.Goals as goal

pub returns : goal.returns
returns c = sets_doubled
