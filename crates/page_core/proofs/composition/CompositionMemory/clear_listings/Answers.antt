-- The listings of a region are taken out.
use Rattle.std.proofs.Common.{◌∙◌, ap, arith}
use Rattle.comp_pool.specs.Changes.{cleared}
use Rattle.page_core.specs.Private.Nodes.{listings_list}
use Rattle.page_core.proofs.Regions.RegionPools.{emptied, value_without_listings, sorted_without_listings}
use Rattle.page_core.proofs.composition.CompositionMemory.clear_listings.Goals as goal

pub invariant_of-self : goal.invariant_of-self
invariant_of-self c =
    let out =
    emptied (listings_list c.args.id) c.self.inside.pool c.clear.new.self
    (omega (arith, c.listings_of.ensures.list, c.listings_of.ensures.within, c.self.invariant.0.lists))
    (c.clear.ensures.cleared ∙ ap (λ l. cleared l c.self.inside.pool) c.listings_of.ensures.list)
    c.clear.ensures.nodes in
    sorted_without_listings c.self.inside.pool c.clear.new.self c.args.id c.args.self.now c.self.view_is
    c.self.inside.regions c.self.inside.cluts c.self.invariant
    (omega (arith, c.listings_of.ensures.list, c.listings_of.ensures.within)) out

pub returns : goal.returns
returns c =
    let out =
    emptied (listings_list c.args.id) c.self.inside.pool c.clear.new.self
    (omega (arith, c.listings_of.ensures.list, c.listings_of.ensures.within, c.self.invariant.0.lists))
    (c.clear.ensures.cleared ∙ ap (λ l. cleared l c.self.inside.pool) c.listings_of.ensures.list)
    c.clear.ensures.nodes in
    value_without_listings c.self.inside.pool c.clear.new.self c.args.id c.args.self.now c.self.view_is
    c.self.inside.regions c.self.inside.cluts c.self.invariant
    (omega (arith, c.listings_of.ensures.list, c.listings_of.ensures.within)) c.requires out
