-- What is left of the wanted contents, whatever the bytes are read as.
use Rattle.std.proofs.Common.{List, length, ◌≤◌}
use Rattle.decoder_model.specs.Readings.{Content}
use Rattle.page_core.specs.Handed.{AreContents}
use Rattle.page_core.specs.Private.Walks.{IsLeftOf, is_content_of}
use Rattle.page_core.proofs.walking.next_front.Given as goal

abbrev pub invariant-loop-front : goal.invariant-loop-front
invariant-loop-front l = (length l.rest ≤ length l.fn.bytes)
    × ((set : List Content) → AreContents set l.fn.bytes → IsLeftOf (is_content_of l.fn.kind) set l.rest)

abbrev pub decreases-loop-front : goal.decreases-loop-front
decreases-loop-front l = length l.rest
