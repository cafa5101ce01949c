use Rattle.std.proofs.Common.{◌≡◌, ◌∙◌, ℕ, Some, None, subst, get_or, [], arith}
use Rattle.stream_syntax.specs.TransportPackets.{packet_fault}
use Rattle.packet_walk.proofs.TellLaws.{taken_more, tells_one_more, tells_refused}
use Rattle.packet_walk.proofs.walk.take_packets.Goals as goal

pub returns-in-Err-clause-refused : goal.returns-in-Err-clause-refused
returns-in-Err-clause-refused g c =
    tells_refused g.T.PacketTeller.stands (g.T.PacketTeller.pid c.args.teller.now) _ _ _ _ _ _ _ _ _ c.args.first
    c.loop-packet.place c.loop-packet.packet-index c.args.packets.now c.in-Err.fault
    c.loop-packet.invariant.told c.in-Err.ensures.kept c.loop-packet-test.true c.loop-packet.invariant.place
    (subst (λ (p : ℕ). packet_fault p (get_or c.args.packets.now c.loop-packet.packet-index [])
    ≡ Some c.in-Err.fault) c.loop-packet.invariant.pid c.in-Err.ensures.fault)

pub loop-packet-preserved : goal.loop-packet-preserved
loop-packet-preserved g c = record {
  place = omega (arith, c.loop-packet.invariant.place);
  taken =
      taken_more g.T.PacketTeller.stands _ _ _ _ _ _ c.loop-packet.place _ c.in_default.ensures.told
      c.loop-packet.invariant.taken;
  same = c.take_packet.ensures.same ∙ c.loop-packet.invariant.same;
  pid = c.take_packet.ensures.pid ∙ c.loop-packet.invariant.pid;
  told =
      tells_one_more g.T.PacketTeller.stands (g.T.PacketTeller.pid c.args.teller.now) _ _ _ _ _ _ _ _ _ c.args.first
      c.loop-packet.place c.loop-packet.packet-index c.args.packets.now
      c.loop-packet.invariant.told
      (subst (λ (p : ℕ). packet_fault p (get_or c.args.packets.now c.loop-packet.packet-index []) ≡ None)
      c.loop-packet.invariant.pid c.in_default.ensures.fault)
      c.in_default.ensures.told c.loop-packet-test.true c.loop-packet.invariant.place;
}
