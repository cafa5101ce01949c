use Rattle.set_coder.proofs.ObjectLaws.{objects_none, object_room, objects_more, objects_drawn}
use Rattle.set_coder.proofs.set_objects.append_objects.Goals as goal

pub loop-place-init : goal.loop-place-init
loop-place-init c =
    objects_none c.args.script.now.pictures c.args.epoch.now c.args.page c.args.cues.now c.args.field.now.items

pub append_object-requires-clause-room : goal.append_object-requires-clause-room
append_object-requires-clause-room c =
    object_room c.args.script.now.pictures c.args.epoch.now c.args.cues.now c.loop-place.place-index
    c.loop-place-test.true c.requires.room

pub loop-place-preserved : goal.loop-place-preserved
loop-place-preserved c =
    objects_more c.args.script.now.pictures c.args.epoch.now c.args.page c.args.cues.now c.args.field.now.items
    c.loop-place.field.items c.append_object.new.field.items c.loop-place.place-index c.loop-place-test.true
    c.loop-place.invariant c.in_ok-append_object.ensures.object

pub returns : goal.returns
returns c =
    record {
      objects =
          objects_drawn c.args.script.now.pictures c.args.epoch.now c.args.page c.args.cues.now c.args.field.now.items
          c.loop-place.field.items c.loop-place.place-index c.loop-place-test.false c.loop-place.invariant;
    }
