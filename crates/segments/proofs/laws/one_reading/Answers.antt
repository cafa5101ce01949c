use Rattle.segments.proofs.Readings.{one_reading}
use Rattle.segments.proofs.laws.one_reading.Goals as goal

pub returns : goal.returns
returns c = one_reading
