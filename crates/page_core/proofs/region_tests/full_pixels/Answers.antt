-- The first region that has no room.
use Rattle.std.proofs.Common.{◌∙◌, refl, sym}
use Rattle.segments.specs.Contents.{region_value}
use Rattle.page_core.proofs.Counts.PixelRoom.{roomed_start, no_room, has_room, all_roomed, room_in_order}
use Rattle.page_core.proofs.region_tests.full_pixels.Goals as goal

pub loop-next-init : goal.loop-next-init
loop-next-init c profile set older free heads are apart unchanged =
    roomed_start profile older set c.args.free c.args.bytes.now free are apart unchanged

pub returns-in-Some-take_room : goal.returns-in-Some-take_room
returns-in-Some-take_room c profile set older free heads are apart unchanged =
    sym (room_in_order profile older set
    ∙ no_room profile older set c.loop-next.left c.loop-next.rest.now c.in-Some.next.rest.now
    (region_value c.in-Some.next.segment) c.args.composition.now c.in-Some-take_room.fault heads
    c.in-Some.ensures.next c.in-Some-take_room.ensures.fault
    (c.loop-next.invariant profile set older free heads are apart unchanged))

pub loop-next-preserved : goal.loop-next-preserved
loop-next-preserved c profile set older free heads are apart unchanged =
    has_room profile older set c.loop-next.left c.take_room.new.left c.loop-next.rest.now c.in-Some.next.rest.now
    (region_value c.in-Some.next.segment) c.args.composition.now heads
    c.in-Some.ensures.next c.in_default-take_room.ensures.fault (c.in_default-take_room.ensures.left refl)
    (c.loop-next.invariant profile set older free heads are apart unchanged)

pub returns : goal.returns
returns c profile set older free heads are apart unchanged =
    sym (room_in_order profile older set
    ∙ all_roomed profile older set c.loop-next.left c.loop-next.rest.now c.in_default.ensures.next
    (c.loop-next.invariant profile set older free heads are apart unchanged))
