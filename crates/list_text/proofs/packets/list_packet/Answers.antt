use Rattle.list_text.proofs.ListingLaws.{other_listed, packet_listed}
use Rattle.list_text.proofs.packets.list_packet.Goals as goal

pub returns-clause-lists : goal.returns-clause-lists
returns-clause-lists g c =
    let goes = rw c.in_ok-fed.was at c.feed.follows.holds-at-none in
    packet_listed _ _ _ c.args.demux.now _ c.args.buffer.now _ _ c.args.place c.args.packet.now c.in_ok-fed.fed.event _
    goes c.in_ok-fed.ensures.event c.in_ok-fed.ensures.unit c.list_loss.ensures c.list_end.ensures

pub returns-then-is_other-clause-lists : goal.returns-then-is_other-clause-lists
returns-then-is_other-clause-lists g c =
    let is_other = c.if-is_other.true in
    let told = c.is_other.ensures in
    other_listed _ c.args.demux.now c.args.buffer.now c.args.place c.args.packet.now (told.goes_on is_other)
    (told.event is_other) (told.unit is_other)
