use Rattle.decoder_model.specs.Received.{sets_received}
use Rattle.std.proofs.Common.{reverse}
use Rattle.reading_laws.proofs.OneReading.{same_reading, same_past}
use Rattle.reading_laws.proofs.laws.one_reading.Goals as goal

pub returns-clause-segment : goal.returns-clause-segment
returns-clause-segment c = same_reading

pub returns-clause-sets : goal.returns-clause-sets
returns-clause-sets c = same_past

pub returns-clause-packets : goal.returns-clause-packets
returns-clause-packets c =
    λ reception. λ ended. λ packets. same_past (reverse (sets_received reception ended packets))
