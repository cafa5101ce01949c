-- A region that is new is put in.
use Rattle.std.proofs.Common.{[], arith, refl}
use Rattle.segments.specs.Contents.{region_value}
use Rattle.page_core.proofs.Regions.RegionsStored.{room_for_one, stored_first}
use Rattle.page_core.proofs.region_taking.take_first.Goals as goal

pub place-requires-clause-few : goal.place-requires-clause-few
place-requires-clause-few c =
    room_for_one c.args.composition.now c.args.store.now c.args.region.now.region
    (record { head = (region_value c.args.region.now).head; slot = 0; listings = [] }) c.requires.stored
    c.requires.new refl c.requires.valid.region

pub returns-in-Ok-clause-stored : goal.returns-in-Ok-clause-stored
returns-in-Ok-clause-stored c =
    let region = region_value c.args.region.now in
    stored_first c.args.composition.now c.put_in.new.composition c.args.store.now c.place.new.self c.put_in.new.store
    region.head c.in-Ok.slot region.listings c.put_in.ensures.composition c.in-Ok.ensures.slot
    c.put_in.ensures.filled.others c.requires.stored c.requires.new
    (omega (arith, c.if-free-count.false, c.free.ensures, c.count.ensures)) c.requires.valid
