-- Packets without a sample, one behind the other.
use Rattle.std.proofs.Common.{◌≡◌, ◌∙◌, ℕ, [], ◌∷◌, ◌++◌, false, None, Some, Option, ap, refl, sym, subst, arith}
use Rattle.check_text.specs.Checking.{Checking}
use Rattle.decoder_model.specs.Received.{Reception}
use Rattle.level_text.specs.Anchoring.{Anchoring, HasBegun, TakesTimed}
use Rattle.level_text.specs.Held.{IsRun}
use Rattle.level_text.proofs.AnchorLaws.{found_where, run_timed, run_untold, ticks_in}
use Rattle.level_text.proofs.anchored_meter.AnchoredMeter.take_run.Goals as goal
use Rattle.level_text.proofs.anchored_meter.AnchoredMeter.take_run.Goals.{in-Some-1, in-None-1}

pub returns-in-Some-clause-told : goal.returns-in-Some-clause-told
returns-in-Some-clause-told g c = λ packets of_run.
    let asked : Reception =
    record { profile = c.self.inside.profile; pid = c.self.inside.pid; pages = c.self.inside.pages; anchor = 0 } in
    let there : c.self.inside.sets ≡ Some c.in-Some.sets = sym c.take.ensures.value ∙ c.in-Some.is in
    let begun_there : c.begin.new.self.sets ≡ Some c.in-Some.sets =
    ap (λ (one : Anchoring). one.sets) (sym c.self.view_is) ∙ there in
    let found = found_where c.self.inside.is_wanting c.self.inside.sets c.in-Some.sets c.self.invariant.wanting there in
    let begun_found : c.begin.new.self.is_wanting ≡ false =
    ap (λ (one : Anchoring). one.is_wanting) (sym c.self.view_is) ∙ found in
    let timed =
    run_timed (g.K.Sink.received c.args.out.now) (g.K.Sink.received c.take_held.new.out) c.args.self.now
    c.begin.new.self
    (record { asked = asked; sets = Some c.take_held.new.sets; is_wanting = c.self.inside.is_wanting })
    c.in-Some.sets c.take_held.new.sets c.args.buffer.now c.take_held.new.buffer c.args.run c.args.held.now
    (λ known taken text has. subst (λ (tick : ℕ). HasBegun (known ++ tick ∷ []) c.begin.new.self taken text)
    c.tick_between.ensures.tick (c.begin.ensures.begun known taken text has))
    begun_there begun_found refl found (ap (λ (one : Anchoring). one.asked) c.self.view_is)
    c.take_held.ensures.told c.take_held.ensures.same c.take_held.ensures.pace
    (omega (arith, c.if-run-eq0.false)) packets
    (subst (λ (made : Reception). IsRun made.pid c.args.run.since c.args.run.count c.args.held.now packets)
    (sym c.begin.ensures.asked) of_run) in
    elim c.match-self.branch [
      | in-Some-1 w ↦ subst (λ (new : Anchoring). TakesTimed (g.K.Sink.received c.args.out.now)
          (g.K.Sink.received c.take_held.new.out) c.args.self.now new c.args.buffer.now c.take_held.new.buffer
          (ticks_in c.args.run) packets) (sym w.self-is) timed
      | in-None-1 w ↦ subst (λ (new : Anchoring). TakesTimed (g.K.Sink.received c.args.out.now)
          (g.K.Sink.received c.take_held.new.out) c.args.self.now new c.args.buffer.now c.take_held.new.buffer
          (ticks_in c.args.run) packets) (sym w.self-is) timed
    ]

pub returns-in_default-clause-told : goal.returns-in_default-clause-told
returns-in_default-clause-told g c = λ packets of_run.
    let none : c.self.inside.sets ≡ None = sym c.take.ensures.value ∙ c.in_default.is in
    subst (λ (there : Option Checking). TakesTimed (g.K.Sink.received c.args.out.now)
    (g.K.Sink.received c.args.out.now) c.args.self.now
    (record {
      asked = record {
        profile = c.self.inside.profile;
        pid = c.self.inside.pid;
        pages = c.self.inside.pages;
        anchor = 0;
      };
      sets = there;
      is_wanting = c.self.inside.is_wanting;
    })
    c.args.buffer.now c.args.buffer.now (ticks_in c.args.run) packets)
    (none ∙ sym c.take.ensures.after)
    (subst (λ (new : Anchoring). TakesTimed (g.K.Sink.received c.args.out.now)
    (g.K.Sink.received c.args.out.now) c.args.self.now new c.args.buffer.now c.args.buffer.now (ticks_in c.args.run)
    packets) (sym c.self.view_is)
    (run_untold (g.K.Sink.received c.args.out.now) c.args.self.now c.begin.new.self c.args.buffer.now c.args.run
    c.args.self.now.asked.pid c.args.held.now
    (λ known taken text has. subst (λ (tick : ℕ). HasBegun (known ++ tick ∷ []) c.begin.new.self taken text)
    c.tick_between.ensures.tick (c.begin.ensures.begun known taken text has))
    (ap (λ (one : Anchoring). one.sets) (sym c.self.view_is) ∙ none) packets of_run))
