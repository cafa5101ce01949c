-- The listings of a segment are put in.
use Rattle.std.proofs.Common.{subst, arith}
use Rattle.segments.specs.Contents.{region_value}
use Rattle.page_core.specs.Private.PoolChanges.{HasListings}
use Rattle.page_core.proofs.Regions.RegionPools.{value_with_listings, sorted_with_listings}
use Rattle.page_core.proofs.composition.CompositionMemory.add_listings.Goals as goal

pub invariant_of-self : goal.invariant_of-self
invariant_of-self c =
    let listings = (region_value c.args.region.now).listings in
    sorted_with_listings c.self.inside.pool c.push_listings.new.pool c.args.region.now.region c.args.self.now
    c.self.view_is c.self.inside.regions c.self.inside.cluts c.self.invariant
    (omega (arith, c.listings_of.ensures.list, c.listings_of.ensures.within)) listings
    (subst (λ l. HasListings l listings c.self.inside.pool c.push_listings.new.pool) c.listings_of.ensures.list
    c.push_listings.ensures)

pub returns : goal.returns
returns c =
    let listings = (region_value c.args.region.now).listings in
    value_with_listings c.self.inside.pool c.push_listings.new.pool c.args.region.now.region c.args.self.now
    c.self.view_is c.self.inside.regions c.self.inside.cluts c.self.invariant
    (omega (arith, c.listings_of.ensures.list, c.listings_of.ensures.within)) listings
    (subst (λ l. HasListings l listings c.self.inside.pool c.push_listings.new.pool) c.listings_of.ensures.list
    c.push_listings.ensures)
