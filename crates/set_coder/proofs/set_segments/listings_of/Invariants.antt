use Rattle.std.proofs.Common.{◌≡◌, take, map}
use Rattle.set_coder.specs.SetSegments.{listing_of}
use Rattle.set_coder.proofs.set_segments.listings_of.Given as goal

abbrev pub invariant-loop-place : goal.invariant-loop-place
invariant-loop-place l = l.listings.items ≡ map (listing_of l.epoch) (take l.place-index l.cues)
