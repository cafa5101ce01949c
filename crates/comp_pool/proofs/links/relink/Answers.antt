use Rattle.std.proofs.Common.{◌<◌, length, set, arith}
use Rattle.std.proofs.lemmas.List.{length-set}
use Rattle.comp_pool.specs.Private.Links.{lists_of, list_at, dropping}
use Rattle.comp_pool.proofs.Chains.{Split-from_Contains}
use Rattle.comp_pool.proofs.Moves.{node_of, detached, p_below, q_below}
use Rattle.comp_pool.proofs.Attach.{t_below, attached}
use Rattle.comp_pool.proofs.links.relink.Goals as goal

pub bounds-backs-place : goal.bounds-backs-place
bounds-backs-place c =
    omega (
      arith,
      c.requires.linked.both,
      c.requires.linked.ends,
      node_of c.args.count c.args.nexts.now c.args.backs.now
          (lists_of c.args.count c.args.nexts.now) c.requires.linked c.args.node c.args.from c.requires.from
          c.requires.listed,
    )

pub bounds-nexts-place : goal.bounds-nexts-place
bounds-nexts-place c =
    omega (
      arith,
      c.requires.linked.ends,
      node_of c.args.count c.args.nexts.now c.args.backs.now
          (lists_of c.args.count c.args.nexts.now) c.requires.linked c.args.node c.args.from c.requires.from
          c.requires.listed,
    )

pub join-requires-clause-forward : goal.join-requires-clause-forward
join-requires-clause-forward c =
    let lists = lists_of c.args.count c.args.nexts.now in
    p_below c.args.count c.args.nexts.now c.args.backs.now lists c.requires.linked c.args.node c.args.from
    c.requires.from
    (Split-from_Contains c.args.node (list_at lists c.args.from) c.requires.listed)

pub join-requires-clause-backward : goal.join-requires-clause-backward
join-requires-clause-backward c =
    let lists = lists_of c.args.count c.args.nexts.now in
    omega (
      arith,
      c.requires.linked.both,
      q_below c.args.count c.args.nexts.now c.args.backs.now lists c.requires.linked c.args.node c.args.from
          c.requires.from
          (Split-from_Contains c.args.node (list_at lists c.args.from) c.requires.listed),
    )

pub join-requires-2-clause-forward : goal.join-requires-2-clause-forward
join-requires-2-clause-forward c =
    let lists = lists_of c.args.count c.args.nexts.now in
    let out =
    detached c.args.count c.args.nexts.now c.args.backs.now lists c.requires.linked c.args.node c.args.from
    c.requires.from
    (Split-from_Contains c.args.node (list_at lists c.args.from) c.requires.listed) in
    let short : c.args.to < length (set lists c.args.from (dropping c.args.node (list_at lists c.args.from))) =
    omega (arith, c.requires.to, length-set lists c.args.from (dropping c.args.node (list_at lists c.args.from))) in
    rw (c.join.ensures.forward, c.join.ensures.backward) (t_below _ _ _ _ _ out c.args.to short)

pub join-requires-2-clause-backward : goal.join-requires-2-clause-backward
join-requires-2-clause-backward c =
    omega (
      arith,
      c.requires.linked.both,
      c.requires.linked.ends,
      node_of c.args.count c.args.nexts.now c.args.backs.now
          (lists_of c.args.count c.args.nexts.now) c.requires.linked c.args.node c.args.from c.requires.from
          c.requires.listed,
    )

pub join-requires-3-clause-forward : goal.join-requires-3-clause-forward
join-requires-3-clause-forward c =
    omega (
      arith,
      c.requires.linked.ends,
      node_of c.args.count c.args.nexts.now c.args.backs.now
          (lists_of c.args.count c.args.nexts.now) c.requires.linked c.args.node c.args.from c.requires.from
          c.requires.listed,
    )

pub returns : goal.returns
returns c =
    let lists = lists_of c.args.count c.args.nexts.now in
    let out =
    detached c.args.count c.args.nexts.now c.args.backs.now lists c.requires.linked c.args.node c.args.from
    c.requires.from
    (Split-from_Contains c.args.node (list_at lists c.args.from) c.requires.listed) in
    let short : c.args.to < length (set lists c.args.from (dropping c.args.node (list_at lists c.args.from))) =
    omega (arith, c.requires.to, length-set lists c.args.from (dropping c.args.node (list_at lists c.args.from))) in
    rw (
      c.join-3.ensures.forward,
      c.join-3.ensures.backward,
      c.join-2.ensures.forward,
      c.join-2.ensures.backward,
      c.join.ensures.forward,
      c.join.ensures.backward,
    )
    (attached _ _ _ _ _ out c.args.to short)
