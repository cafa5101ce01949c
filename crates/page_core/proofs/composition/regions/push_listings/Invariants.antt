-- The listings so far are put in.
use Rattle.segments.specs.Contents.{region_value}
use Rattle.page_core.proofs.Regions.ListingPushes.{HasSome}
use Rattle.page_core.proofs.composition.regions.push_listings.Given as goal

abbrev pub invariant-loop-i : goal.invariant-loop-i
invariant-loop-i l = HasSome l.list (region_value l.region).listings l.i l.fn.pool l.pool
