use Rattle.std.proofs.Common.{Contains, subst, arith}
use Rattle.comp_pool.specs.Pool.{PoolOf, IsInList, list_of}
use Rattle.comp_pool.proofs.Calls.{in_list_from_item}
use Rattle.comp_pool.proofs.Kept.{kept_distinct}
use Rattle.comp_pool.proofs.Unlinking.{within, is_linked, has_item, unlinked_kept, unlinked_follows}
use Rattle.comp_pool.proofs.pool.Pool.unlink.Goals as goal

pub move_to-requires-clause-listed : goal.move_to-requires-clause-listed
move_to-requires-clause-listed g c =
    let inside = c.self.inside in
    is_linked inside.filler inside.items.items inside.count inside.nexts.items inside.backs.items inside.free
    c.self.invariant c.args.self.now c.self.view_is c.args.list c.args.node c.requires

pub move_to-requires-clause-from : goal.move_to-requires-clause-from
move_to-requires-clause-from g c =
    let inside = c.self.inside in
    within inside.filler inside.items.items inside.count inside.nexts.items inside.backs.items inside.free
    c.self.invariant c.args.self.now c.self.view_is c.args.list c.args.node c.requires

pub index-requires : goal.index-requires
index-requires g c =
    let inside = c.self.inside in
    let below =
    has_item inside.filler inside.items.items inside.count inside.nexts.items inside.backs.items inside.free
    c.self.invariant c.args.self.now c.self.view_is c.args.list c.args.node c.requires in
    omega (arith, below)

pub invariant_of-self : goal.invariant_of-self
invariant_of-self g c =
    let inside = c.self.inside in
    unlinked_kept inside.filler inside.items.items inside.count inside.nexts.items inside.backs.items inside.free
    c.self.invariant c.args.self.now c.self.view_is
    c.args.list c.args.node c.requires c.move_to.new.nexts.items c.move_to.new.backs.items c.move_to.ensures.linked
    c.move_to.ensures.length

pub returns-clause-unlinked : goal.returns-clause-unlinked
returns-clause-unlinked g c =
    let inside = c.self.inside in
    (unlinked_follows inside.filler inside.items.items inside.count inside.nexts.items inside.backs.items inside.free
    c.self.invariant c.args.self.now c.self.view_is
    c.args.list c.args.node c.requires c.move_to.new.nexts.items c.move_to.new.backs.items c.move_to.ensures.linked
    c.move_to.ensures.length).is

pub returns-clause-item : goal.returns-clause-item
returns-clause-item g c =
    let inside = c.self.inside in
    let P : PoolOf g.row.T.Denot → Type 0 = λ p. IsInList p c.args.list c.args.node
    → Contains (list_of p c.args.list) (c.args.node, c.index.result.now) in
    subst P c.self.view_is
    (in_list_from_item inside.filler inside.items.items inside.count inside.nexts.items inside.backs.items
    c.args.node c.index.result.now
    c.self.invariant.linked c.self.invariant.itemed c.index.ensures c.args.list) c.requires

pub returns-clause-distinct : goal.returns-clause-distinct
returns-clause-distinct g c =
    let inside = c.self.inside in
    (unlinked_follows inside.filler inside.items.items inside.count inside.nexts.items inside.backs.items inside.free
    c.self.invariant c.args.self.now c.self.view_is
    c.args.list c.args.node c.requires c.move_to.new.nexts.items c.move_to.new.backs.items c.move_to.ensures.linked
    c.move_to.ensures.length).distinct

pub returns-clause-nodes : goal.returns-clause-nodes
returns-clause-nodes g c =
    let inside = c.self.inside in
    (unlinked_follows inside.filler inside.items.items inside.count inside.nexts.items inside.backs.items inside.free
    c.self.invariant c.args.self.now c.self.view_is
    c.args.list c.args.node c.requires c.move_to.new.nexts.items c.move_to.new.backs.items c.move_to.ensures.linked
    c.move_to.ensures.length).nodes

pub returns-clause-one_item : goal.returns-clause-one_item
returns-clause-one_item g c =
    let inside = c.self.inside in
    kept_distinct inside.filler inside.items.items inside.count inside.nexts.items inside.backs.items _ inside.free
    c.args.self.now c.self.invariant c.self.view_is
