use Rattle.std.proofs.Common.{◌≡◌, ℕ, length, Some, None, get_or, subst, ap, arith}
use Rattle.comp_pool.specs.Pool.{PoolOf, IsInList, list_of}
use Rattle.comp_pool.specs.Places.{behind}
use Rattle.comp_pool.proofs.Calls.{next_some, next_none}
use Rattle.comp_pool.proofs.Reading.{is_one}
use Rattle.comp_pool.proofs.pool.Pool.next.Goals as goal

pub at-next-requires : goal.at-next-requires
at-next-requires g c =
    let inside = c.self.inside in
    let below =
    is_one inside.filler inside.items.items inside.count inside.nexts.items inside.backs.items inside.free
    c.self.invariant c.args.self.now c.self.view_is c.args.node c.requires in
    omega (arith, below, c.self.invariant.ends, ap length c.deref.ensures.value)

pub returns-then-next-self : goal.returns-then-next-self
returns-then-next-self g c =
    let inside = c.self.inside in
    let is : c.at-next.result ≡ get_or inside.nexts.items c.args.node.number 0 = cc in
    let P : PoolOf g.row.T.Denot → Type 0 = λ p. (l : ℕ) → IsInList p l c.args.node
    → Some (record { number = c.at-next.result }) ≡ behind c.args.node (list_of p l) in
    subst P c.self.view_is
    (next_some inside.filler inside.items.items inside.count inside.nexts.items inside.backs.items c.args.node
    c.at-next.result c.self.invariant.linked is c.if-next-self.true)

pub returns-else-next-self : goal.returns-else-next-self
returns-else-next-self g c =
    let inside = c.self.inside in
    let is : c.at-next.result ≡ get_or inside.nexts.items c.args.node.number 0 = cc in
    let P : PoolOf g.row.T.Denot → Type 0 =
    λ p. (l : ℕ) → IsInList p l c.args.node → None ≡ behind c.args.node (list_of p l) in
    subst P c.self.view_is
    (next_none inside.filler inside.items.items inside.count inside.nexts.items inside.backs.items c.args.node
    c.at-next.result c.self.invariant.linked is c.if-next-self.false)
