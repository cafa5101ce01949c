use Rattle.slot_stream.proofs.FrontLaws as own
use Rattle.slot_stream.proofs.laws.later_pieces_leave_the_front.Goals as goal

pub returns : goal.returns
returns c = own.later_pieces_leave_the_front
