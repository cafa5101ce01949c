use Rattle.comp_pool.proofs.NodeLaws.{in_some_list}
use Rattle.page_core.proofs.Pictures.EntryWalks.{walk_goes_on, entry_given}
use Rattle.page_core.proofs.composition.lookup.Entries.next_entry.Goals as goal

pub item-requires : goal.item-requires
item-requires c =
    in_some_list c.self.inside.pool.now 0 c.in_ok-node.node (c.self.invariant.listed c.in_ok-node.node c.in_ok-node.was)

pub next-self-inside-requires : goal.next-self-inside-requires
next-self-inside-requires c =
    in_some_list c.self.inside.pool.now 0 c.in_ok-node.node (c.self.invariant.listed c.in_ok-node.node c.in_ok-node.was)

pub invariant_of-self : goal.invariant_of-self
invariant_of-self c =
    walk_goes_on c.self.inside.pool.now c.self.inside.next c.next-self-inside.result c.in_ok-node.node c.self.invariant
    c.in_ok-node.was
    (c.next-self-inside.ensures 0 (c.self.invariant.listed c.in_ok-node.node c.in_ok-node.was))

pub returns : goal.returns
returns c =
    entry_given c.self.inside.pool.now c.self.inside.next c.next-self-inside.result c.in_ok-node.node c.item.result
    c.entry_in-entry.result c.args.self.now c.self.invariant c.in_ok-node.was
    (c.item.ensures.item 0 (c.self.invariant.listed c.in_ok-node.node c.in_ok-node.was))
    (c.next-self-inside.ensures 0 (c.self.invariant.listed c.in_ok-node.node c.in_ok-node.was))
    c.entry_in-entry.ensures c.self.view_is
