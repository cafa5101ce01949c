use Rattle.reading_laws.proofs.SegmentsRead.{segment_is_read}
use Rattle.reading_laws.proofs.laws.every_segment_is_read.Goals as goal

pub returns : goal.returns
returns c = segment_is_read
