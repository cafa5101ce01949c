use Rattle.std.proofs.Common.{◌∙◌, ℕ, Err, ap, refl, sym, subst, arith}
use Rattle.packet_source.specs.declared.stream_end.StreamEnd.{StreamEnd}
use Rattle.packet_walk.specs.Told.{Tells}
use Rattle.packet_walk.proofs.WalkLaws.{RefusesAt, come_refused, come_to_end, come_told, few_in_hand, nothing_walked, nothing_within, walked_on, walked_unwritten}
use Rattle.receiver.specs.Receiving.{reception}
use Rattle.stream_report.specs.Private.Picturing.{HasPictured}
use Rattle.stream_report.proofs.pictures.Pictures.walk.Goals as goal

pub loop-end-init : goal.loop-end-init
loop-end-init g c = record {
  within = nothing_within c.args.packets.now c.requires.nothing;
  kept = omega arith;
  same = refl;
  walked =
      nothing_walked HasPictured (reception c.args.self.now.receiving).pid _ _ c.args.self.now c.args.buffer.now
      c.args.packets.now c.requires.stands c.requires.buffer c.requires.nothing c.requires.source;
}

pub take_packets-requires-clause-within : goal.take_packets-requires-clause-within
take_packets-requires-clause-within g c =
    λ _ _. few_in_hand c.fill.new.self _ _ c.first-first.ensures c.packets.ensures c.in_default.ensures.more.within

pub returns-in-Err-clause-end : goal.returns-in-Err-clause-end
returns-in-Err-clause-end g c =
    come_to_end HasPictured (reception c.args.self.now.receiving).pid _ _ _ _ _ c.loop-end.self c.loop-end.buffer
    c.loop-end.packets c.fill.new.self c.in-Err.end c.loop-end.invariant.walked
    c.in-Err.ensures.stands c.loop-end.invariant.kept c.in-Err.ensures.end
    (λ same. c.in-Err.ensures.long (ap (λ (e : StreamEnd). Err e) same))

pub returns-in-Err-take_packets-clause-end : goal.returns-in-Err-take_packets-clause-end
returns-in-Err-take_packets-clause-end g c =
    let pid : ℕ = (reception c.args.self.now.receiving).pid in
    let come =
    walked_on HasPictured pid _ _ _ _ _ c.loop-end.self c.loop-end.buffer c.loop-end.packets c.fill.new.self
    c.loop-end.invariant.walked c.in_default.ensures.stands in
    come_refused HasPictured pid _ _ _ _ _ c.loop-end.self c.take_packets.new.self c.loop-end.buffer
    c.take_packets.new.buffer c.fill.new.self c.in-Err-take_packets.refused c.first-first.result
    c.packets.result.now come
    c.in_default.ensures.more.within c.first-first.ensures c.packets.ensures
    (subst (λ (p : ℕ). RefusesAt HasPictured p (g.K.Sink.received c.loop-end.out)
    (g.K.Sink.received c.take_packets.new.out) c.loop-end.self c.take_packets.new.self c.loop-end.buffer
    c.take_packets.new.buffer c.in-Err-take_packets.refused c.first-first.result c.packets.result.now)
    (λ i. (c.loop-end.invariant.same i).pid) c.in-Err-take_packets.ensures.refused)

pub returns-then-has_failed-clause-end : goal.returns-then-has_failed-clause-end
returns-then-has_failed-clause-end g c =
    let pid : ℕ = (reception c.args.self.now.receiving).pid in
    let come =
    walked_on HasPictured pid _ _ _ _ _ c.loop-end.self c.loop-end.buffer c.loop-end.packets c.fill.new.self
    c.loop-end.invariant.walked c.in_default.ensures.stands in
    let walked =
    come_told HasPictured pid _ _ _ _ _ c.loop-end.self c.take_packets.new.self c.loop-end.buffer
    c.take_packets.new.buffer c.fill.new.self c.first-first.result c.packets.result.now come
    c.first-first.ensures c.packets.ensures
    (subst (λ (p : ℕ). Tells HasPictured p (g.K.Sink.received c.loop-end.out)
    (g.K.Sink.received c.take_packets.new.out) c.loop-end.self c.take_packets.new.self c.loop-end.buffer
    c.take_packets.new.buffer c.first-first.result c.packets.result.now)
    (λ i. (c.loop-end.invariant.same i).pid) c.in_default-take_packets.ensures.tells) in
    walked_unwritten HasPictured pid _ _ _ _ _ _ c.fill.new.self walked c.in_default.ensures.more.within
    (sym c.has_failed.ensures ∙ c.if-has_failed.true)

pub loop-end-preserved : goal.loop-end-preserved
loop-end-preserved g c =
    let pid : ℕ = (reception c.args.self.now.receiving).pid in
    let come =
    walked_on HasPictured pid _ _ _ _ _ c.loop-end.self c.loop-end.buffer c.loop-end.packets c.fill.new.self
    c.loop-end.invariant.walked c.in_default.ensures.stands in
    record {
      within = c.in_default.ensures.more.within;
      kept = omega (arith, c.loop-end.invariant.kept, c.in_default.ensures.kept);
      same =
          c.take_packets.ensures.same ∙ c.loop-end.invariant.same;
      walked =
          come_told HasPictured pid _ _ _ _ _ c.loop-end.self c.take_packets.new.self c.loop-end.buffer
          c.take_packets.new.buffer c.fill.new.self c.first-first.result c.packets.result.now come
          c.first-first.ensures c.packets.ensures
          (subst (λ (p : ℕ). Tells HasPictured p (g.K.Sink.received c.loop-end.out)
          (g.K.Sink.received c.take_packets.new.out) c.loop-end.self c.take_packets.new.self c.loop-end.buffer
          c.take_packets.new.buffer c.first-first.result c.packets.result.now)
          (λ i. (c.loop-end.invariant.same i).pid) c.in_default-take_packets.ensures.tells);
    }
