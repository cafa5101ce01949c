use Rattle.std.proofs.Common.{◌∙◌, ap, length, Option, arith}
use Rattle.segments.specs.Contents.{object_value}
use Rattle.comp_pool.specs.Places.{rest_from}
use Rattle.comp_pool.specs.Pool.{IsInList, list_of}
use Rattle.comp_pool.specs.declared.node.NodeId.{NodeId}
use Rattle.comp_pool.proofs.NodeLaws.{in_some_list, one_item}
use Rattle.page_core.specs.Private.Listings.{painted_node}
use Rattle.page_core.proofs.Objects.Repainting.{node_is_listed, repainting_goes_on, nodes_end, faults_end, writing_is_whole}
use Rattle.page_core.proofs.Objects.Rewriting.{walk_shorter}
use Rattle.page_core.proofs.composition.listings.paint_list.Goals as goal

pub next-place-requires : goal.next-place-requires
next-place-requires c =
    in_some_list c.loop-place.pool c.args.list c.in-Some.node
    (node_is_listed c.args.list c.args.painter (object_value c.args.object.now) c.args.region.now.head.depth
    c.args.region.now.slot c.args.pool.now c.args.store.now c.loop-place.place c.loop-place.pool c.loop-place.store
    c.loop-place.fault c.loop-place.invariant c.in-Some.node c.in-Some.is)

pub item-requires : goal.item-requires
item-requires c =
    in_some_list c.loop-place.pool c.args.list c.in-Some.node
    (node_is_listed c.args.list c.args.painter (object_value c.args.object.now) c.args.region.now.head.depth
    c.args.region.now.slot c.args.pool.now c.args.store.now c.loop-place.place c.loop-place.pool c.loop-place.store
    c.loop-place.fault c.loop-place.invariant c.in-Some.node c.in-Some.is)

pub item-requires-in-Some : goal.item-requires-in-Some
item-requires-in-Some c =
    in_some_list c.loop-place.pool c.args.list c.in-Some.node
    (node_is_listed c.args.list c.args.painter (object_value c.args.object.now) c.args.region.now.head.depth
    c.args.region.now.slot c.args.pool.now c.args.store.now c.loop-place.place c.loop-place.pool c.loop-place.store
    c.loop-place.fault c.loop-place.invariant c.in-Some.node c.in-Some.is)

pub set_item-requires : goal.set_item-requires
set_item-requires c =
    in_some_list c.loop-place.pool c.args.list c.in-Some.node
    (node_is_listed c.args.list c.args.painter (object_value c.args.object.now) c.args.region.now.head.depth
    c.args.region.now.slot c.args.pool.now c.args.store.now c.loop-place.place c.loop-place.pool c.loop-place.store
    c.loop-place.fault c.loop-place.invariant c.in-Some.node c.in-Some.is)

pub loop-place-smaller : goal.loop-place-smaller
loop-place-smaller c =
    let pool = c.loop-place.pool in
    let node = c.in-Some.node in
    let listed : IsInList pool c.args.list node =
    node_is_listed c.args.list c.args.painter (object_value c.args.object.now) c.args.region.now.head.depth
    c.args.region.now.slot c.args.pool.now c.args.store.now c.loop-place.place pool c.loop-place.store
    c.loop-place.fault c.loop-place.invariant node c.in-Some.is in
    omega (
      arith,
      walk_shorter pool c.set_item.new.self c.args.list node c.item.result c.painted_node-item.result
          c.next-place.result c.loop-place.invariant.nodes.distinct
          (c.item.ensures.item c.args.list listed) (c.next-place.ensures c.args.list listed)
          c.set_item.ensures.replaced,
      ap (λ (o : Option NodeId). length (rest_from o (list_of pool c.args.list))) c.in-Some.is,
    )

pub loop-place-preserved : goal.loop-place-preserved
loop-place-preserved c =
    let pool = c.loop-place.pool in
    let node = c.in-Some.node in
    let listed : IsInList pool c.args.list node =
    node_is_listed c.args.list c.args.painter (object_value c.args.object.now) c.args.region.now.head.depth
    c.args.region.now.slot c.args.pool.now c.args.store.now c.loop-place.place pool c.loop-place.store
    c.loop-place.fault c.loop-place.invariant node c.in-Some.is in
    repainting_goes_on c.args.list c.args.painter (object_value c.args.object.now) c.args.region.now.head.depth
    c.args.region.now.slot c.args.pool.now c.args.store.now c.loop-place.place pool c.loop-place.store
    c.loop-place.fault c.loop-place.invariant
    node c.item.result c.next-place.result c.set_item.new.self c.painted_node-item.result
    c.paint_through-found.new.store c.paint_through-found.result c.first_fault-fault.result c.in-Some.is
    (c.item.ensures.item c.args.list listed) (c.next-place.ensures c.args.list listed)
    (c.painted_node-item.ensures
    ∙ ap (painted_node c.args.painter)
    (one_item pool c.args.list c.args.list node c.item-in-Some.result c.item.result
    c.loop-place.invariant.nodes.distinct (c.item-in-Some.ensures.item c.args.list listed)
    (c.item.ensures.item c.args.list listed)))
    c.paint_through-found.ensures.others c.paint_through-found.ensures.fault
    c.paint_through-found.ensures.written c.first_fault-fault.ensures
    c.set_item.ensures.replaced c.set_item.ensures.distinct c.set_item.ensures.nodes
