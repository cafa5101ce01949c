use Rattle.std.proofs.Common.{◌≡◌, refl, get_or}
use Rattle.comp_pool.proofs.Kept.{kept_distinct}
use Rattle.comp_pool.proofs.Pushing.{none_free, is_free, in_no_list, pushed_kept, pushed_follows}
use Rattle.comp_pool.proofs.pool.Pool.push_back.Goals as goal

pub returns-then-node-self-clause-full : goal.returns-then-node-self-clause-full
returns-then-node-self-clause-full g c =
    let inside = c.self.inside in
    let is : c.at-node.result ≡ get_or inside.nexts.items inside.count 0 = cc in
    let none =
    none_free inside.filler inside.items.items inside.count inside.nexts.items inside.backs.items inside.free
    c.self.invariant c.args.self.now c.self.view_is
    c.at-node.result is c.if-node-self.true in
    ((λ _. none), (λ _. refl))

pub returns-then-node-self-clause-distinct : goal.returns-then-node-self-clause-distinct
returns-then-node-self-clause-distinct g c =
    let inside = c.self.inside in
    kept_distinct inside.filler inside.items.items inside.count inside.nexts.items inside.backs.items _ inside.free
    c.args.self.now c.self.invariant c.self.view_is

pub move_to-requires-clause-listed : goal.move_to-requires-clause-listed
move_to-requires-clause-listed g c =
    let inside = c.self.inside in
    let is : c.at-node.result ≡ get_or inside.nexts.items inside.count 0 = cc in
    is_free inside.filler inside.items.items inside.count inside.nexts.items inside.backs.items inside.free
    c.self.invariant c.args.self.now c.self.view_is
    c.at-node.result is c.if-node-self.false

pub invariant_of-self : goal.invariant_of-self
invariant_of-self g c =
    let inside = c.self.inside in
    let is : c.at-node.result ≡ get_or inside.nexts.items inside.count 0 = cc in
    pushed_kept inside.filler inside.items.items inside.count inside.nexts.items inside.backs.items inside.free
    c.self.invariant c.args.self.now c.self.view_is
    c.at-node.result is c.if-node-self.false c.args.list c.requires c.move_to.new.nexts.items c.move_to.new.backs.items
    c.move_to.ensures.linked c.move_to.ensures.length c.args.item

pub returns-clause-pushed : goal.returns-clause-pushed
returns-clause-pushed g c =
    let inside = c.self.inside in
    let is : c.at-node.result ≡ get_or inside.nexts.items inside.count 0 = cc in
    (pushed_follows inside.filler inside.items.items inside.count inside.nexts.items inside.backs.items inside.free
    c.self.invariant c.args.self.now c.self.view_is
    c.at-node.result is c.if-node-self.false c.args.list c.requires c.move_to.new.nexts.items c.move_to.new.backs.items
    c.move_to.ensures.linked c.move_to.ensures.length c.args.item).is

pub returns-clause-fresh : goal.returns-clause-fresh
returns-clause-fresh g c =
    let inside = c.self.inside in
    let is : c.at-node.result ≡ get_or inside.nexts.items inside.count 0 = cc in
    in_no_list inside.filler inside.items.items inside.count inside.nexts.items inside.backs.items inside.free
    c.self.invariant c.args.self.now c.self.view_is
    c.at-node.result is c.if-node-self.false

pub returns-clause-distinct : goal.returns-clause-distinct
returns-clause-distinct g c =
    let inside = c.self.inside in
    let is : c.at-node.result ≡ get_or inside.nexts.items inside.count 0 = cc in
    (pushed_follows inside.filler inside.items.items inside.count inside.nexts.items inside.backs.items inside.free
    c.self.invariant c.args.self.now c.self.view_is
    c.at-node.result is c.if-node-self.false c.args.list c.requires c.move_to.new.nexts.items c.move_to.new.backs.items
    c.move_to.ensures.linked c.move_to.ensures.length c.args.item).distinct

pub returns-clause-nodes : goal.returns-clause-nodes
returns-clause-nodes g c =
    let inside = c.self.inside in
    let is : c.at-node.result ≡ get_or inside.nexts.items inside.count 0 = cc in
    (pushed_follows inside.filler inside.items.items inside.count inside.nexts.items inside.backs.items inside.free
    c.self.invariant c.args.self.now c.self.view_is
    c.at-node.result is c.if-node-self.false c.args.list c.requires c.move_to.new.nexts.items c.move_to.new.backs.items
    c.move_to.ensures.linked c.move_to.ensures.length c.args.item).nodes
