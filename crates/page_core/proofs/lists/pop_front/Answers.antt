-- The first node is taken out.
use Rattle.page_core.proofs.ColourTables.Popping.{popped}
use Rattle.page_core.proofs.lists.pop_front.Goals as goal

pub returns : goal.returns
returns c =
    popped c.args.pool.now c.unlink.new.self c.args.list c.in_ok-node.node c.unlink.result c.first.result c.requires
    c.first.ensures.distinct c.first.ensures.first
    c.in_ok-node.was c.unlink.ensures.unlinked c.unlink.ensures.item c.unlink.ensures.nodes
