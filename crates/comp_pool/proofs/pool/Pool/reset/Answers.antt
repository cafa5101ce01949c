use Rattle.comp_pool.proofs.Resetting.{reset_kept, reset_follows}
use Rattle.comp_pool.proofs.pool.Pool.reset.Goals as goal

pub invariant_of-self : goal.invariant_of-self
invariant_of-self g c =
    let inside = c.self.inside in
    reset_kept inside.filler inside.items.items inside.count inside.nexts.items inside.backs.items inside.free
    c.self.invariant c.args.self.now c.self.view_is
    c.free_again.new.nexts.items c.free_again.new.backs.items c.free_again.ensures.length c.free_again.ensures.same
    c.free_again.ensures.forward c.free_again.ensures.backward

pub returns-clause-emptied : goal.returns-clause-emptied
returns-clause-emptied g c =
    let inside = c.self.inside in
    (reset_follows inside.filler inside.items.items inside.count inside.nexts.items inside.backs.items inside.free
    c.self.invariant c.args.self.now c.self.view_is
    c.free_again.new.nexts.items c.free_again.new.backs.items c.free_again.ensures.length c.free_again.ensures.same
    c.free_again.ensures.forward c.free_again.ensures.backward).is

pub returns-clause-distinct : goal.returns-clause-distinct
returns-clause-distinct g c =
    let inside = c.self.inside in
    (reset_follows inside.filler inside.items.items inside.count inside.nexts.items inside.backs.items inside.free
    c.self.invariant c.args.self.now c.self.view_is
    c.free_again.new.nexts.items c.free_again.new.backs.items c.free_again.ensures.length c.free_again.ensures.same
    c.free_again.ensures.forward c.free_again.ensures.backward).distinct

pub returns-clause-nodes : goal.returns-clause-nodes
returns-clause-nodes g c =
    let inside = c.self.inside in
    (reset_follows inside.filler inside.items.items inside.count inside.nexts.items inside.backs.items inside.free
    c.self.invariant c.args.self.now c.self.view_is
    c.free_again.new.nexts.items c.free_again.new.backs.items c.free_again.ensures.length c.free_again.ensures.same
    c.free_again.ensures.forward c.free_again.ensures.backward).nodes
