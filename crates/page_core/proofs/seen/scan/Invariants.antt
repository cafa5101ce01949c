-- The walk has come so far over whatever the bytes are read as.
use Rattle.std.proofs.Common.{length, List, option_map}
use Rattle.decoder_model.specs.Readings.{Reading}
use Rattle.decoder_model.specs.Received.{AreRead}
use Rattle.segments.specs.Contents.{page_value, display_value}
use Rattle.page_core.specs.Private.Seen.{Progress}
use Rattle.page_core.proofs.seen.scan.Given as goal

abbrev pub invariant-loop-front : goal.invariant-loop-front
invariant-loop-front l = (readings : List Reading) → AreRead readings l.fn.bytes
    → Progress readings l.seen (option_map page_value l.page) (option_map display_value l.display) l.rest

abbrev pub decreases-loop-front : goal.decreases-loop-front
decreases-loop-front l = length l.rest
