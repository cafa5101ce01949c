use Rattle.std.proofs.Common.{◌≡◌, ◌<◌, ◌+◌, length, Some, None, get_or, subst}
use Rattle.comp_pool.specs.Pool.{PoolOf, list_of}
use Rattle.comp_pool.specs.Places.{first_of}
use Rattle.comp_pool.proofs.Calls.{first_some, first_none}
use Rattle.comp_pool.proofs.Kept.{kept_distinct}
use Rattle.comp_pool.proofs.pool.Pool.first.Goals as goal

pub returns-then-node-self-clause-first : goal.returns-then-node-self-clause-first
returns-then-node-self-clause-first g c =
    let inside = c.self.inside in
    let is : c.at-node.result ≡ get_or inside.nexts.items (inside.count + (c.args.list + 1)) 0 = cc in
    let P : PoolOf g.row.T.Denot → Type 0 = λ p. c.args.list < length p.lists
    → Some (record { number = c.at-node.result }) ≡ first_of (list_of p c.args.list) in
    subst P c.self.view_is
    (first_some inside.filler inside.items.items inside.count inside.nexts.items inside.backs.items c.args.list
    c.at-node.result c.self.invariant.linked is c.if-node-self.true) c.requires

pub returns-then-node-self-clause-distinct : goal.returns-then-node-self-clause-distinct
returns-then-node-self-clause-distinct g c =
    let inside = c.self.inside in
    kept_distinct inside.filler inside.items.items inside.count inside.nexts.items inside.backs.items _ inside.free
    c.args.self.now c.self.invariant c.self.view_is

pub returns-else-node-self-clause-first : goal.returns-else-node-self-clause-first
returns-else-node-self-clause-first g c =
    let inside = c.self.inside in
    let is : c.at-node.result ≡ get_or inside.nexts.items (inside.count + (c.args.list + 1)) 0 = cc in
    let P : PoolOf g.row.T.Denot → Type 0 =
    λ p. c.args.list < length p.lists → None ≡ first_of (list_of p c.args.list) in
    subst P c.self.view_is
    (first_none inside.filler inside.items.items inside.count inside.nexts.items inside.backs.items c.args.list
    c.at-node.result c.self.invariant.linked is c.if-node-self.false) c.requires

pub returns-else-node-self-clause-distinct : goal.returns-else-node-self-clause-distinct
returns-else-node-self-clause-distinct g c =
    let inside = c.self.inside in
    kept_distinct inside.filler inside.items.items inside.count inside.nexts.items inside.backs.items _ inside.free
    c.args.self.now c.self.invariant c.self.view_is
