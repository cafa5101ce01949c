-- The nodes of the list of the region.
use Rattle.std.proofs.Common.{◌∙◌, ap}
use Rattle.comp_pool.specs.Pool.{list_of}
use Rattle.std.proofs.Common.{length}
use Rattle.page_core.proofs.Counts.ListLengths.{few_nodes_in, listings_counted}
use Rattle.page_core.proofs.composition.CompositionMemory.listing_count.Goals as goal

pub length_of-requires-clause-few : goal.length_of-requires-clause-few
length_of-requires-clause-few c = few_nodes_in c.self.inside.pool c.args.self.now c.self.view_is c.requires

pub returns : goal.returns
returns c =
    listings_counted c.self.inside.pool c.args.self.now c.args.id c.length_of.result c.self.view_is c.self.invariant.0
    c.ranges.id.fits
    (c.length_of.ensures ∙ ap (λ l. length (list_of c.self.inside.pool l)) c.listings_of.ensures.list)
