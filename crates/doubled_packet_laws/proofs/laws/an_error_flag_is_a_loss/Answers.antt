use Rattle.doubled_packet_laws.proofs.Damaged.{flagged_arrivals, flagged_more, double_behind, nothing_behind}
use Rattle.doubled_packet_laws.proofs.laws.an_error_flag_is_a_loss.Goals as goal

pub returns-clause-loss_alone : goal.returns-clause-loss_alone
returns-clause-loss_alone c = flagged_arrivals

pub returns-clause-behind_taken : goal.returns-clause-behind_taken
returns-clause-behind_taken c = flagged_more

pub returns-clause-copy_is_double : goal.returns-clause-copy_is_double
returns-clause-copy_is_double c = double_behind

pub returns-clause-copy_brings_nothing : goal.returns-clause-copy_brings_nothing
returns-clause-copy_brings_nothing c = nothing_behind
