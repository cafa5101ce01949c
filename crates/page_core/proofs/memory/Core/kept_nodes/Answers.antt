-- All nodes are free, or those of entries, or these.
use Rattle.page_core.proofs.Counts.KeptCounts.{kept_counted}
use Rattle.page_core.proofs.memory.Core.kept_nodes.Goals as goal

pub returns : goal.returns
returns c =
    kept_counted _ c.args.self.now c.free.result c.entry_count.result c.self.view_is c.self.invariant.whole
    c.free.ensures c.entry_count.ensures
