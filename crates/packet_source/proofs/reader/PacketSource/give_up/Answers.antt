use Rattle.std.proofs.Common.{arith}
use Rattle.packet_source.proofs.ReaderLaws.{given_up-moved}
use Rattle.packet_source.proofs.reader.PacketSource.give_up.Goals as goal

pub returns : goal.returns
returns c =
    let inside = c.self.inside in
    given_up-moved inside.first inside.start inside.filled 240 inside.room.items _ c.args.self.now c.self.invariant.3
    (omega (arith, c.self.invariant.0, c.self.invariant.1, inside.room.ok.0)) (omega arith)
    (omega (arith, c.self.invariant.1, inside.room.ok.0)) c.copy_within.ensures.items c.self.view_is
