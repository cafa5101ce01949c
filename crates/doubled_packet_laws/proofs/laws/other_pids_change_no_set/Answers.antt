use Rattle.doubled_packet_laws.proofs.OtherPids.{sets_of_pid}
use Rattle.doubled_packet_laws.proofs.laws.other_pids_change_no_set.Goals as goal

pub returns : goal.returns
returns c = sets_of_pid
