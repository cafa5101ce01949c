-- One packet more.
use Rattle.std.proofs.Common.{◌≡◌, ◌∙◌, ℕ, [], ◌∷◌, false, None, Some, Option, ap, refl, sym, subst}
use Rattle.check_text.specs.Checking.{Checking}
use Rattle.decoder_model.specs.Received.{Reception}
use Rattle.level_text.specs.Anchoring.{Anchoring, TakesTimed}
use Rattle.level_text.proofs.AnchorLaws.{asked_where, found_where, one_timed, one_untold, taken_right}
use Rattle.set_receiver.specs.Receiving.{reception}
use Rattle.stream_syntax.specs.TransportPackets.{packet_fault}
use Rattle.level_text.proofs.anchored_meter.AnchoredMeter.take_own.Goals as goal
use Rattle.level_text.proofs.anchored_meter.AnchoredMeter.take_own.Goals.{in-Some-1, in-None-1}

pub returns-in-Some-clause-told : goal.returns-in-Some-clause-told
returns-in-Some-clause-told g c =
    let asked : Reception =
    record { profile = c.self.inside.profile; pid = c.self.inside.pid; pages = c.self.inside.pages; anchor = 0 } in
    let there : c.self.inside.sets ≡ Some c.in-Some.sets = sym c.take.ensures.value ∙ c.in-Some.is in
    let begun_there : c.begin.new.self.sets ≡ Some c.in-Some.sets =
    ap (λ (one : Anchoring). one.sets) (sym c.self.view_is) ∙ there in
    let found = found_where c.self.inside.is_wanting c.self.inside.sets c.in-Some.sets c.self.invariant.wanting there in
    let begun_found : c.begin.new.self.is_wanting ≡ false =
    ap (λ (one : Anchoring). one.is_wanting) (sym c.self.view_is) ∙ found in
    let own_pid : (reception c.in-Some.sets.receiving).pid ≡ c.args.self.now.asked.pid =
    (asked_where asked c.self.inside.sets c.in-Some.sets c.self.invariant.sets there).pid
    ∙ ap (λ (one : Anchoring). one.asked.pid) c.self.view_is
    ∙ ap (λ (one : Reception). one.pid) c.begin.ensures.asked in
    let faultless : packet_fault (reception c.in-Some.sets.receiving).pid c.args.packet.now ≡ None =
    subst (λ (pid : ℕ). packet_fault pid c.args.packet.now ≡ None) (sym own_pid) c.requires.faultless in
    let timed =
    one_timed (g.K.Sink.received c.args.out.now) (g.K.Sink.received c.take-taken.new.out) c.args.self.now
    c.begin.new.self
    (record { asked = asked; sets = Some c.take-taken.new.self; is_wanting = c.self.inside.is_wanting })
    c.in-Some.sets c.take-taken.new.self c.args.buffer.now c.take-taken.new.buffer c.args.tick c.args.packet.now
    c.begin.ensures.begun begun_there begun_found refl found (ap (λ (one : Anchoring). one.asked) c.self.view_is)
    (taken_right c.take-taken.result
    (packet_fault (reception c.in-Some.sets.receiving).pid c.args.packet.now) c.take-taken.ensures.fault faultless
    c.take-taken.ensures.told)
    c.take-taken.ensures.same c.take-taken.ensures.pace in
    elim c.match-self.branch [
      | in-Some-1 w ↦ subst (λ (new : Anchoring). TakesTimed (g.K.Sink.received c.args.out.now)
          (g.K.Sink.received c.take-taken.new.out) c.args.self.now new c.args.buffer.now c.take-taken.new.buffer
          (c.args.tick ∷ []) (c.args.packet.now ∷ [])) (sym w.self-is) timed
      | in-None-1 w ↦ subst (λ (new : Anchoring). TakesTimed (g.K.Sink.received c.args.out.now)
          (g.K.Sink.received c.take-taken.new.out) c.args.self.now new c.args.buffer.now c.take-taken.new.buffer
          (c.args.tick ∷ []) (c.args.packet.now ∷ [])) (sym w.self-is) timed
    ]

pub returns-in_default-clause-told : goal.returns-in_default-clause-told
returns-in_default-clause-told g c =
    let none : c.self.inside.sets ≡ None = sym c.take.ensures.value ∙ c.in_default.is in
    subst (λ (there : Option Checking). TakesTimed (g.K.Sink.received c.args.out.now)
    (g.K.Sink.received c.args.out.now) c.args.self.now
    (record {
      asked = record {
        profile = c.self.inside.profile;
        pid = c.self.inside.pid;
        pages = c.self.inside.pages;
        anchor = 0;
      };
      sets = there;
      is_wanting = c.self.inside.is_wanting;
    })
    c.args.buffer.now c.args.buffer.now (c.args.tick ∷ []) (c.args.packet.now ∷ []))
    (none ∙ sym c.take.ensures.after)
    (subst (λ (new : Anchoring). TakesTimed (g.K.Sink.received c.args.out.now)
    (g.K.Sink.received c.args.out.now) c.args.self.now new c.args.buffer.now c.args.buffer.now (c.args.tick ∷ [])
    (c.args.packet.now ∷ [])) (sym c.self.view_is)
    (one_untold (g.K.Sink.received c.args.out.now) c.args.self.now c.begin.new.self c.args.buffer.now c.args.tick
    c.args.packet.now c.begin.ensures.begun (ap (λ (one : Anchoring). one.sets) (sym c.self.view_is) ∙ none)))
