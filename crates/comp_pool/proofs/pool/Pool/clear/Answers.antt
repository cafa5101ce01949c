use Rattle.std.proofs.Common.{◌≡◌, ◌∙◌, ◌<◌, List, length, set, sym, ap, arith}
use Rattle.std.proofs.lemmas.List.{length-set, set-set}
use Rattle.comp_pool.specs.declared.node.NodeId.{NodeId}
use Rattle.comp_pool.specs.Pool.{PoolOf, IsInList, list_of}
use Rattle.comp_pool.specs.Changes.{without}
use Rattle.comp_pool.proofs.ItemLaws.{list_after_unlink}
use Rattle.comp_pool.proofs.NodeLaws.{in_list_first}
use Rattle.comp_pool.proofs.WalkLaws.{unlinked_shorter}
use Rattle.comp_pool.proofs.pool.Pool.clear.Goals as goal

pub unlink-requires : goal.unlink-requires
unlink-requires g c =
    in_list_first c.loop-node.self c.args.list c.in-Some.node c.first.result c.first.ensures.first c.in-Some.is

pub loop-node-preserved : goal.loop-node-preserved
loop-node-preserved g c =
    let pool = c.loop-node.self in
    let new = c.unlink.new.self in
    let old = c.args.self.now in
    let l = c.args.list in
    let node = c.in-Some.node in
    let listed : IsInList pool l node = in_list_first pool l node c.first.result c.first.ensures.first c.in-Some.is in
    let within : l < length pool.lists =
    omega (arith, c.requires, ap length c.loop-node.invariant.lists, length-set old.lists l (list_of pool l)) in
    let shorter = unlinked_shorter pool l c.first.ensures.distinct new node c.unlink.ensures.unlinked listed in
    let list_is : list_of new l ≡ without node (list_of pool l) =
    list_after_unlink pool new l node c.unlink.ensures.unlinked within in
    record {
      lists = ap (λ (p : PoolOf g.row.T.Denot). p.lists) c.unlink.ensures.unlinked
          ∙ ap (λ (ls : List (List (NodeId × g.row.T.Denot))). set ls l (without node (list_of pool l)))
          c.loop-node.invariant.lists
          ∙ set-set old.lists l (list_of pool l) (without node (list_of pool l))
          ∙ ap (λ (ps : List (NodeId × g.row.T.Denot)). set old.lists l ps) (sym list_is);
      free = omega (
        arith,
        ap (λ (p : PoolOf g.row.T.Denot). p.free) c.unlink.ensures.unlinked,
        shorter,
        c.loop-node.invariant.free,
      );
      nodes = c.unlink.ensures.nodes ∙ c.loop-node.invariant.nodes;
    }
