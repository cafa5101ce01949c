use Rattle.std.proofs.Common.{◌≡◌, ◌+◌, length}
use Rattle.segments.specs.Reading.{tested}
use Rattle.stream_syntax.specs.SegmentTests.{listing_tests}
use Rattle.segments.proofs.region.check_listings.Given as goal

-- what is left of the listings is refused as all of them are
abbrev pub invariant-loop-rest : goal.invariant-loop-rest
invariant-loop-rest l = (tested (listing_tests l.place l.rest) ≡ tested (listing_tests 16 l.listings))
    × (l.place + length l.rest ≡ 16 + length l.listings)

abbrev pub decreases-loop-rest : goal.decreases-loop-rest
decreases-loop-rest l = length l.rest
