use Rattle.std.proofs.Common.{◌∙◌, ℕ, Err, ap, refl, sym, subst, arith}
use Rattle.packet_source.specs.declared.stream_end.StreamEnd.{StreamEnd}
use Rattle.packet_walk.specs.Told.{Tells}
use Rattle.packet_walk.proofs.WalkLaws.{RefusesAt, come_refused, come_taken, come_to_end, come_told, few_in_hand, nothing_walked, nothing_within, walked_on, walked_unwritten}
use Rattle.packet_walk.proofs.walk.walk_packets.Goals as goal

pub loop-end-init : goal.loop-end-init
loop-end-init g c = record {
  within = nothing_within c.args.packets.now c.requires.nothing;
  kept = omega arith;
  same = refl;
  pid = refl;
  walked =
      nothing_walked g.T.PacketTeller.stands (g.T.PacketTeller.pid c.args.teller.now) _ _ c.args.teller.now
      c.args.buffer.now c.args.packets.now c.requires.stands c.requires.buffer c.requires.nothing c.requires.source;
}

pub take_packets-requires : goal.take_packets-requires
take_packets-requires g c = record {
  within = few_in_hand c.fill.new.self _ _ c.first-first.ensures c.packets.ensures c.in_default.ensures.more.within;
  taken =
      come_taken g.T.PacketTeller.stands (g.T.PacketTeller.pid c.args.teller.now) _ _ _ _ c.loop-end.teller
      c.loop-end.buffer c.fill.new.self c.first-first.result
      (walked_on g.T.PacketTeller.stands (g.T.PacketTeller.pid c.args.teller.now) _ _ _ _ _ c.loop-end.teller
      c.loop-end.buffer c.loop-end.packets c.fill.new.self c.loop-end.invariant.walked
      c.in_default.ensures.stands) c.first-first.ensures;
}

pub returns-in-Err-clause-end : goal.returns-in-Err-clause-end
returns-in-Err-clause-end g c =
    come_to_end g.T.PacketTeller.stands (g.T.PacketTeller.pid c.args.teller.now) _ _ _ _ _ c.loop-end.teller
    c.loop-end.buffer c.loop-end.packets c.fill.new.self c.in-Err.end c.loop-end.invariant.walked
    c.in-Err.ensures.stands c.loop-end.invariant.kept c.in-Err.ensures.end
    (λ same. c.in-Err.ensures.long (ap (λ (e : StreamEnd). Err e) same))

pub returns-in-Err-take_packets-clause-end : goal.returns-in-Err-take_packets-clause-end
returns-in-Err-take_packets-clause-end g c =
    let pid : ℕ = g.T.PacketTeller.pid c.args.teller.now in
    let come =
    walked_on g.T.PacketTeller.stands pid _ _ _ _ _ c.loop-end.teller c.loop-end.buffer c.loop-end.packets
    c.fill.new.self c.loop-end.invariant.walked c.in_default.ensures.stands in
    come_refused g.T.PacketTeller.stands pid _ _ _ _ _ c.loop-end.teller c.take_packets.new.teller c.loop-end.buffer
    c.take_packets.new.buffer c.fill.new.self c.in-Err-take_packets.refused c.first-first.result
    c.packets.result.now come
    c.in_default.ensures.more.within c.first-first.ensures c.packets.ensures
    (subst (λ (p : ℕ). RefusesAt g.T.PacketTeller.stands p (g.K.Sink.received c.loop-end.out)
    (g.K.Sink.received c.take_packets.new.out) c.loop-end.teller c.take_packets.new.teller c.loop-end.buffer
    c.take_packets.new.buffer c.in-Err-take_packets.refused c.first-first.result c.packets.result.now)
    c.loop-end.invariant.pid c.in-Err-take_packets.ensures.refused)

pub returns-then-has_failed-clause-end : goal.returns-then-has_failed-clause-end
returns-then-has_failed-clause-end g c =
    let pid : ℕ = g.T.PacketTeller.pid c.args.teller.now in
    let come =
    walked_on g.T.PacketTeller.stands pid _ _ _ _ _ c.loop-end.teller c.loop-end.buffer c.loop-end.packets
    c.fill.new.self c.loop-end.invariant.walked c.in_default.ensures.stands in
    let walked =
    come_told g.T.PacketTeller.stands pid _ _ _ _ _ c.loop-end.teller c.take_packets.new.teller c.loop-end.buffer
    c.take_packets.new.buffer c.fill.new.self c.first-first.result c.packets.result.now come
    c.first-first.ensures c.packets.ensures
    (subst (λ (p : ℕ). Tells g.T.PacketTeller.stands p (g.K.Sink.received c.loop-end.out)
    (g.K.Sink.received c.take_packets.new.out) c.loop-end.teller c.take_packets.new.teller c.loop-end.buffer
    c.take_packets.new.buffer c.first-first.result c.packets.result.now)
    c.loop-end.invariant.pid c.in_default-take_packets.ensures.tells) in
    walked_unwritten g.T.PacketTeller.stands pid _ _ _ _ _ _ c.fill.new.self walked c.in_default.ensures.more.within
    (sym c.has_failed.ensures ∙ c.if-has_failed.true)

pub loop-end-preserved : goal.loop-end-preserved
loop-end-preserved g c =
    let pid : ℕ = g.T.PacketTeller.pid c.args.teller.now in
    let come =
    walked_on g.T.PacketTeller.stands pid _ _ _ _ _ c.loop-end.teller c.loop-end.buffer c.loop-end.packets
    c.fill.new.self c.loop-end.invariant.walked c.in_default.ensures.stands in
    record {
      within = c.in_default.ensures.more.within;
      kept = omega (arith, c.loop-end.invariant.kept, c.in_default.ensures.kept);
      same = c.take_packets.ensures.same ∙ c.loop-end.invariant.same;
      pid = c.take_packets.ensures.pid ∙ c.loop-end.invariant.pid;
      walked =
          come_told g.T.PacketTeller.stands pid _ _ _ _ _ c.loop-end.teller c.take_packets.new.teller c.loop-end.buffer
          c.take_packets.new.buffer c.fill.new.self c.first-first.result c.packets.result.now come
          c.first-first.ensures c.packets.ensures
          (subst (λ (p : ℕ). Tells g.T.PacketTeller.stands p (g.K.Sink.received c.loop-end.out)
          (g.K.Sink.received c.take_packets.new.out) c.loop-end.teller c.take_packets.new.teller c.loop-end.buffer
          c.take_packets.new.buffer c.first-first.result c.packets.result.now)
          c.loop-end.invariant.pid c.in_default-take_packets.ensures.tells);
    }
