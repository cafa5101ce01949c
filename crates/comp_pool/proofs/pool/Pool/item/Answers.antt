use Rattle.std.proofs.Common.{ℕ, Contains, subst, arith}
use Rattle.comp_pool.specs.Pool.{PoolOf, IsInList, list_of}
use Rattle.comp_pool.proofs.Calls.{in_list_from_item}
use Rattle.comp_pool.proofs.Kept.{kept_distinct}
use Rattle.comp_pool.proofs.Reading.{is_one}
use Rattle.comp_pool.proofs.pool.Pool.item.Goals as goal

pub index-requires : goal.index-requires
index-requires g c =
    let inside = c.self.inside in
    let below =
    is_one inside.filler inside.items.items inside.count inside.nexts.items inside.backs.items inside.free
    c.self.invariant c.args.self.now c.self.view_is c.args.node c.requires in
    omega (arith, below, c.self.invariant.itemed)

pub returns-clause-item : goal.returns-clause-item
returns-clause-item g c =
    let inside = c.self.inside in
    let P : PoolOf g.row.T.Denot → Type 0 = λ p. (l : ℕ) → IsInList p l c.args.node
    → Contains (list_of p l) (c.args.node, c.index.result.now) in
    subst P c.self.view_is
    (in_list_from_item inside.filler inside.items.items inside.count inside.nexts.items inside.backs.items
    c.args.node c.index.result.now
    c.self.invariant.linked c.self.invariant.itemed c.index.ensures)

pub returns-clause-one_item : goal.returns-clause-one_item
returns-clause-one_item g c =
    let inside = c.self.inside in
    kept_distinct inside.filler inside.items.items inside.count inside.nexts.items inside.backs.items _ inside.free
    c.args.self.now c.self.invariant c.self.view_is
