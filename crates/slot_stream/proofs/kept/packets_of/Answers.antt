use Rattle.std.proofs.Common.{◌≡◌, ◌∙◌, ◌+◌, ◌++◌, ◌∷◌, [], ap, sym, arith}
use Rattle.stream_syntax.specs.TransportPackets.{written_packet}
use Rattle.slot_stream.specs.SlotStream.{packet_of}
use Rattle.ts_packets.specs.Private.Numbering.{Numbering}
use Rattle.slot_stream.proofs.KeptLaws.{numbered_more}
use Rattle.slot_stream.proofs.kept.packets_of.Goals as goal

pub loop-piece-preserved : goal.loop-piece-preserved
loop-piece-preserved c =
    let so_far = c.loop-piece.invariant in
    let i = c.loop-piece.piece-index in
    let counter = so_far.counter in
    let next = ap (λ (n : Numbering). n.counter) c.packet.ensures.counter in
    let told : c.packet.new.out ≡ packet_of c.args.pid (c.args.number + i) c.piece-item.result =
    c.packet.ensures.bytes
    ∙ (λ j. written_packet (so_far.pid j) c.piece.inside.starts (counter j) c.piece.inside.bytes.now)
    ∙ ap (packet_of c.args.pid (c.args.number + i)) c.piece.view_is in
    record {
      pid = ap (λ (n : Numbering). n.pid) c.packet.ensures.counter ∙ so_far.pid;
      counter = omega (arith, counter, next);
      are = c.in_ok-push.ensures.items
          ∙ (λ j. so_far.are j ++ told j ∷ [])
          ∙ sym (numbered_more c.args.pid c.args.number c.args.pieces.now i c.piece-item.result
          c.loop-piece-test.true c.piece-item.is);
    }
