use Rattle.shown_stream.proofs.OneStream as own
use Rattle.shown_stream.proofs.laws.one_stream.Goals as goal

pub returns : goal.returns
returns c = own.one_stream
