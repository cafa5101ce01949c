use Rattle.std.proofs.Common.{get_or}
use Rattle.std.proofs.lemmas.Option.{slice_get-get_or}
use Rattle.comp_pool.specs.declared.node.NodeId.{NodeId}
use Rattle.comp_pool.proofs.ItemLaws.{in_list_from_item}
use Rattle.layout_tests.proofs.ManyNodeLaws.{others_stay}
use Rattle.layout_tests.proofs.pooled_lists.take_out.Goals as goal

pub unlink-item-requires : goal.unlink-item-requires
unlink-item-requires g c =
    let any : NodeId = record { number = 0 } in
    let node = get_or c.args.nodes.now c.args.index any in
    in_list_from_item c.args.pool.now 0 node c.args.index
    (c.requires.index node (slice_get-get_or c.args.nodes.now c.args.index any c.requires.node))

pub returns-clause-others : goal.returns-clause-others
returns-clause-others g c =
    let any : NodeId = record { number = 0 } in
    others_stay c.args.pool.now c.unlink-item.new.self c.args.nodes.now c.args.index
    (get_or c.args.nodes.now c.args.index any) c.requires.distinct
    c.unlink-item.ensures.unlinked (slice_get-get_or c.args.nodes.now c.args.index any c.requires.node) c.requires.index
