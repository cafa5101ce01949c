use Rattle.splice.proofs.PacketLaws.{bytes_of, packet_taken, passed_by}
use Rattle.splice.proofs.stream_reader.take_packet.Goals as goal

-- a packet of another PID
pub returns-then-is_other-clause-packet : goal.returns-then-is_other-clause-packet
returns-then-is_other-clause-packet c =
    passed_by c.args.part c.args.receiver.now c.args.packet.now c.args.place c.args.found.now c.args.joined.now
    (bytes_of c.args.packet.now c.fits-packet) c.requires.place (c.is_other.ensures.other.0 c.if-is_other.true).0
    (λ fed given stands. c.is_other.ensures.stands c.if-is_other.true fed given stands)

pub returns-clause-packet : goal.returns-clause-packet
returns-clause-packet c =
    packet_taken c.args.part c.args.receiver.now c.feed_counting.new.self c.args.packet.now c.args.place
    c.in-Ok.came.losses c.args.found.now c.args.joined.now (bytes_of c.args.packet.now c.fits-packet)
    c.requires.place c.in-Ok.ensures.fault (λ fed given stands. c.in-Ok.ensures.stands fed given stands)
    c.feed_counting.ensures.same c.take_ready.new.receiver c.with_losses.result c.take_ready.new.found
    c.take_ready.new.joined c.with_losses.ensures c.in_ok-take_ready.ensures.sets
