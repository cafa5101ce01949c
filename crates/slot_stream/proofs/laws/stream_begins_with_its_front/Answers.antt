use Rattle.slot_stream.proofs.FrontLaws as own
use Rattle.slot_stream.proofs.laws.stream_begins_with_its_front.Goals as goal

pub returns : goal.returns
returns c = own.stream_begins_with_its_front
