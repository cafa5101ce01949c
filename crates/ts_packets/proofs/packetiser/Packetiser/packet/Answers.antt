use Rattle.ts_packets.proofs.WrittenPackets.{written_says}
use Rattle.ts_packets.proofs.packetiser.Packetiser.packet.Goals as goal

pub returns-clause-carries : goal.returns-clause-carries
returns-clause-carries c =
    let says =
    written_says c.self.inside.pid c.args.start c.self.inside.counter c.args.piece.now c.self.invariant.0
    c.self.invariant.1 c.requires.some c.requires.fits in
    rw (← c.self.view_is, c.write_packet.ensures) says.carries

pub returns-clause-number : goal.returns-clause-number
returns-clause-number c =
    let says =
    written_says c.self.inside.pid c.args.start c.self.inside.counter c.args.piece.now c.self.invariant.0
    c.self.invariant.1 c.requires.some c.requires.fits in
    rw (← c.self.view_is, c.write_packet.ensures) says.numbered

pub returns-clause-taken : goal.returns-clause-taken
returns-clause-taken c =
    let says =
    written_says c.self.inside.pid c.args.start c.self.inside.counter c.args.piece.now c.self.invariant.0
    c.self.invariant.1 c.requires.some c.requires.fits in
    rw (← c.self.view_is, c.write_packet.ensures) says.taken
