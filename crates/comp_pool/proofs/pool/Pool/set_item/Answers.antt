use Rattle.std.proofs.Common.{arith}
use Rattle.comp_pool.proofs.Setting.{replaced_follows}
use Rattle.comp_pool.proofs.Reading.{is_one}
use Rattle.comp_pool.proofs.pool.Pool.set_item.Goals as goal

pub index_mut-requires : goal.index_mut-requires
index_mut-requires g c =
    let inside = c.self.inside in
    let below =
    is_one inside.filler inside.items.items inside.count inside.nexts.items inside.backs.items inside.free
    c.self.invariant c.args.self.now c.self.view_is c.args.node c.requires in
    omega (arith, below, c.self.invariant.itemed)

pub returns-clause-replaced : goal.returns-clause-replaced
returns-clause-replaced g c =
    let inside = c.self.inside in
    (replaced_follows inside.filler inside.items.items inside.count inside.nexts.items inside.backs.items inside.free
    c.self.invariant c.args.self.now c.self.view_is c.args.node c.requires c.args.item).is

pub returns-clause-distinct : goal.returns-clause-distinct
returns-clause-distinct g c =
    let inside = c.self.inside in
    (replaced_follows inside.filler inside.items.items inside.count inside.nexts.items inside.backs.items inside.free
    c.self.invariant c.args.self.now c.self.view_is c.args.node c.requires c.args.item).distinct

pub returns-clause-nodes : goal.returns-clause-nodes
returns-clause-nodes g c =
    let inside = c.self.inside in
    (replaced_follows inside.filler inside.items.items inside.count inside.nexts.items inside.backs.items inside.free
    c.self.invariant c.args.self.now c.self.view_is c.args.node c.requires c.args.item).nodes
