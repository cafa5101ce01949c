use Rattle.std.proofs.Common.{◌≡◌, ◌∙◌, ℕ, Some, None, subst, get_or, [], arith}
use Rattle.stream_syntax.specs.TransportPackets.{packet_fault}
use Rattle.packet_walk.proofs.TellLaws.{tells_one_more, tells_refused}
use Rattle.receiver.specs.Receiving.{reception}
use Rattle.stream_report.specs.Private.Picturing.{HasPictured}
use Rattle.stream_report.proofs.pictures.Pictures.take_packets.Goals as goal

pub returns-in-Err-clause-refused : goal.returns-in-Err-clause-refused
returns-in-Err-clause-refused g c =
    tells_refused HasPictured (reception c.args.self.now.receiving).pid _ _ _ _ _ _ _ _ _ c.args.first
    c.loop-packet.place
    c.loop-packet.packet-index c.args.packets.now c.in-Err.fault
    c.loop-packet.invariant.told c.in-Err.ensures.kept c.loop-packet-test.true c.loop-packet.invariant.place
    (subst (λ (p : ℕ). packet_fault p (get_or c.args.packets.now c.loop-packet.packet-index [])
    ≡ Some c.in-Err.fault) (λ i. (c.loop-packet.invariant.same i).pid) c.in-Err.ensures.fault)

pub loop-packet-preserved : goal.loop-packet-preserved
loop-packet-preserved g c = record {
  place = omega (arith, c.loop-packet.invariant.place);
  same =
      c.take_packet.ensures.same ∙ c.loop-packet.invariant.same;
  told =
      tells_one_more HasPictured (reception c.args.self.now.receiving).pid _ _ _ _ _ _ _ _ _ c.args.first
      c.loop-packet.place
      c.loop-packet.packet-index c.args.packets.now
      c.loop-packet.invariant.told
      (subst (λ (p : ℕ). packet_fault p (get_or c.args.packets.now c.loop-packet.packet-index []) ≡ None)
      (λ i. (c.loop-packet.invariant.same i).pid) c.in_default.ensures.fault)
      (c.in_default.ensures.told c.loop-packet.place) c.loop-packet-test.true c.loop-packet.invariant.place;
}
