use Rattle.std.proofs.Common.{ap, length, option_map, refl, arith}
use Rattle.comp_pool.specs.Pool.{IsInList}
use Rattle.comp_pool.proofs.NodeLaws.{in_some_list}
use Rattle.comp_pool.proofs.WalkLaws.{walk_start}
use Rattle.segments.specs.Contents.{object_value}
use Rattle.page_core.specs.Private.ObjectFaults.{told}
use Rattle.page_core.proofs.Objects.EverywhereLaws.{least_begins, least_goes_on, least_ends}
use Rattle.page_core.proofs.Objects.EverywhereWalks.{all_begin, all_go_on, from_node}
use Rattle.page_core.proofs.Objects.EverywhereWrites.{regions_stay, room_kept, writing_all_begins, writing_all_goes_on}
use Rattle.page_core.proofs.composition.everywhere.paint_regions.Goals as goal

pub loop-place-init : goal.loop-place-init
loop-place-init c = record {
  nodes =
      all_begin c.args.painter c.args.pool.now c.first-place.result c.first-place.ensures.distinct
      c.first-place.ensures.first;
  regions = c.requires.regions;
  room = record { count = refl; size = refl; free = refl };
  fault = λ content fields apart.
      least_begins c.args.painter content (object_value c.args.object.now) c.args.pool.now c.first-place.result
      (walk_start c.args.pool.now 1 c.first-place.result c.first-place.ensures.first);
  written = λ content fields.
      writing_all_begins c.args.painter content (object_value c.args.object.now) c.args.pool.now c.args.store.now
      c.first-place.result (walk_start c.args.pool.now 1 c.first-place.result c.first-place.ensures.first);
}

pub next-place-requires : goal.next-place-requires
next-place-requires c =
    in_some_list c.loop-place.pool 1 c.in-Some.node (c.loop-place.invariant.nodes.listed c.in-Some.node c.in-Some.is)

pub item-item-requires : goal.item-item-requires
item-item-requires c =
    in_some_list c.loop-place.pool 1 c.in-Some.node (c.loop-place.invariant.nodes.listed c.in-Some.node c.in-Some.is)

pub loop-place-smaller : goal.loop-place-smaller
loop-place-smaller c =
    let pool = c.loop-place.pool in
    let node = c.in-Some.node in
    let listed : IsInList pool 1 node = c.loop-place.invariant.nodes.listed node c.in-Some.is in
    omega (
      arith,
      ap length
          (from_node c.args.painter c.args.pool.now c.loop-place.place pool node c.item-item.result c.next-place.result
          c.loop-place.invariant.nodes c.in-Some.is (c.item-item.ensures.item 1 listed)
          (c.next-place.ensures 1 listed)),
    )

pub loop-place-preserved : goal.loop-place-preserved
loop-place-preserved c =
    let pool = c.loop-place.pool in
    let node = c.in-Some.node in
    let on = c.loop-place.invariant.nodes in
    let listed : IsInList pool 1 node = on.listed node c.in-Some.is in
    let there = c.item-item.ensures.item 1 listed in
    let behind_is = c.next-place.ensures 1 listed in
    record {
      nodes =
          all_go_on c.args.painter c.args.pool.now c.loop-place.place pool c.paint_at.new.pool node c.item-item.result
          c.next-place.result on c.in-Some.is there behind_is c.paint_at.ensures.nodes;
      regions =
          regions_stay c.args.pool.now c.item-item.result c.loop-place.store c.paint_at.new.store
          c.paint_at.ensures.others c.loop-place.invariant.regions;
      room =
          room_kept c.item-item.result c.args.store.now c.loop-place.store c.paint_at.new.store
          c.paint_at.ensures.others c.loop-place.invariant.room;
      fault = λ content fields apart.
          least_goes_on c.args.painter content (object_value c.args.object.now) c.args.pool.now pool c.loop-place.place
          c.next-place.result node c.item-item.result (option_map told c.loop-place.least)
          (option_map told c.paint_at.result) (option_map told c.lesser-least.result) on c.in-Some.is there behind_is
          apart (c.paint_at.ensures.fault content fields) c.lesser-least.ensures
          (c.loop-place.invariant.fault content fields apart);
      written = λ content fields.
          writing_all_goes_on c.args.painter content (object_value c.args.object.now) c.args.pool.now c.args.store.now
          c.loop-place.place pool c.loop-place.store c.paint_at.new.store node c.item-item.result
          c.next-place.result
          on c.in-Some.is there behind_is c.paint_at.ensures.others (c.paint_at.ensures.written content fields)
          (c.loop-place.invariant.written content fields);
    }

pub returns-clause-fault : goal.returns-clause-fault
returns-clause-fault c content fields apart =
    least_ends c.args.painter content (object_value c.args.object.now) c.args.pool.now c.loop-place.place
    (option_map told c.loop-place.least) c.in_default.is (c.loop-place.invariant.fault content fields apart)
