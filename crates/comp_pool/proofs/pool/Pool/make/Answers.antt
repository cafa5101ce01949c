use Rattle.std.proofs.Common.{◌≡◌, ◌+◌, length, arith}
use Rattle.comp_pool.proofs.Making.{made, made_pool}
use Rattle.comp_pool.proofs.Twice.{none_twice}
use Rattle.comp_pool.proofs.Kept.{node_count_kept}
use Rattle.comp_pool.proofs.Resetting.{freed_kept}
use Rattle.comp_pool.proofs.pool.Pool.make.Goals as goal

pub invariant_of-result : goal.invariant_of-result
invariant_of-result g c =
    let N = c.free_all.new.nexts.items in
    let P = c.free_all.new.backs.items in
    let long : length N ≡ c.args.nodes + 1 + c.args.lists = omega (arith, c.in_ok-nexts.ensures.len) in
    let linked =
    made c.args.nodes c.args.lists N P long (omega (arith, c.free_all.ensures.same, c.free_all.ensures.length))
    (omega arith) c.free_all.ensures.forward c.free_all.ensures.backward in
    freed_kept c.args.filler c.in_ok-items.items.items c.args.nodes c.args.lists N P linked
    (omega (arith, c.in_ok-items.ensures.len)) (omega (arith, long))

pub returns-clause-empty : goal.returns-clause-empty
returns-clause-empty g c =
    let N = c.free_all.new.nexts.items in
    let P = c.free_all.new.backs.items in
    let long : length N ≡ c.args.nodes + 1 + c.args.lists = omega (arith, c.in_ok-nexts.ensures.len) in
    let linked =
    made c.args.nodes c.args.lists N P long (omega (arith, c.free_all.ensures.same, c.free_all.ensures.length))
    (omega arith) c.free_all.ensures.forward c.free_all.ensures.backward in
    made_pool c.args.filler c.in_ok-items.items.items c.args.nodes c.args.lists N P linked

pub returns-clause-distinct : goal.returns-clause-distinct
returns-clause-distinct g c =
    let N = c.free_all.new.nexts.items in
    let P = c.free_all.new.backs.items in
    let long : length N ≡ c.args.nodes + 1 + c.args.lists = omega (arith, c.in_ok-nexts.ensures.len) in
    let linked =
    made c.args.nodes c.args.lists N P long (omega (arith, c.free_all.ensures.same, c.free_all.ensures.length))
    (omega arith) c.free_all.ensures.forward c.free_all.ensures.backward in
    none_twice c.args.filler c.in_ok-items.items.items c.args.nodes N P
    (freed_kept c.args.filler c.in_ok-items.items.items c.args.nodes c.args.lists N P linked
    (omega (arith, c.in_ok-items.ensures.len)) (omega (arith, long))).linked

pub returns-clause-nodes : goal.returns-clause-nodes
returns-clause-nodes g c =
    let N = c.free_all.new.nexts.items in
    let P = c.free_all.new.backs.items in
    let long : length N ≡ c.args.nodes + 1 + c.args.lists = omega (arith, c.in_ok-nexts.ensures.len) in
    let linked =
    made c.args.nodes c.args.lists N P long (omega (arith, c.free_all.ensures.same, c.free_all.ensures.length))
    (omega arith) c.free_all.ensures.forward c.free_all.ensures.backward in
    node_count_kept c.args.filler c.in_ok-items.items.items c.args.nodes N P _ _
    (freed_kept c.args.filler c.in_ok-items.items.items c.args.nodes c.args.lists N P linked
    (omega (arith, c.in_ok-items.ensures.len)) (omega (arith, long)))
