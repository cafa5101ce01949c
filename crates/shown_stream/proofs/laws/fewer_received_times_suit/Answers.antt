use Rattle.shown_stream.proofs.Shown.FirstTimes.{first_of_received_times}
use Rattle.shown_stream.proofs.laws.fewer_received_times_suit.Goals as goal

pub returns : goal.returns
returns c = first_of_received_times
