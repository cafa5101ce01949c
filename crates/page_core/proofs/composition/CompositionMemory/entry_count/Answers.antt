-- The nodes of the first list.
use Rattle.page_core.proofs.Counts.ListLengths.{entries_counted, few_nodes_in}
use Rattle.page_core.proofs.composition.CompositionMemory.entry_count.Goals as goal

pub length_of-requires-clause-few : goal.length_of-requires-clause-few
length_of-requires-clause-few c = few_nodes_in c.self.inside.pool c.args.self.now c.self.view_is c.requires

pub returns : goal.returns
returns c =
    entries_counted c.self.inside.pool c.args.self.now c.length_of.result c.self.view_is c.self.invariant.0
    c.length_of.ensures
