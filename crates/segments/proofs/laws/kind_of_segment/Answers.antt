use Rattle.segments.proofs.Readings.{kind_of_segment}
use Rattle.segments.proofs.laws.kind_of_segment.Goals as goal

pub returns : goal.returns
returns c = kind_of_segment
