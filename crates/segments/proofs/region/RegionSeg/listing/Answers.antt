use Rattle.std.proofs.Common.{arith}
use Rattle.segments.proofs.Sixes.{length_by_six, listing_at, low_twelve}
use Rattle.segments.proofs.region.RegionSeg.listing.Goals as goal

pub returns : goal.returns
returns c =
    listing_at c.args.self.now.listings.now c.args.i _ _ _ (grind (arith, length_by_six)) c.read_word.ensures
    (low_twelve _ _ c.read_word-2.ensures) (low_twelve _ _ c.read_word-3.ensures)
