-- The stream has ended.
use Rattle.std.proofs.Common.{◌≡◌, ◌∙◌, false, true, Some, ap, sym, subst}
use Rattle.decoder_model.specs.Received.{Reception}
use Rattle.level_text.specs.Anchoring.{Anchoring, FinishesTimed}
use Rattle.level_text.proofs.AnchorEndLaws.{finished_timed, finished_untold}
use Rattle.level_text.proofs.AnchorLaws.{found_where}
use Rattle.level_text.proofs.anchored_meter.AnchoredMeter.finish_sets.Goals as goal
use Rattle.level_text.proofs.anchored_meter.AnchoredMeter.finish_sets.Goals.{in-Some-1, in-None-1}

pub returns-in-Some-clause-told : goal.returns-in-Some-clause-told
returns-in-Some-clause-told g c =
    let asked : Reception =
    record { profile = c.self.inside.profile; pid = c.self.inside.pid; pages = c.self.inside.pages; anchor = 0 } in
    let there : c.self.inside.sets ≡ Some c.in-Some.sets = sym c.take.ensures.value ∙ c.in-Some.is in
    let begun_there : c.begin.new.self.sets ≡ Some c.in-Some.sets =
    ap (λ (one : Anchoring). one.sets) (sym c.self.view_is) ∙ there in
    let found = found_where c.self.inside.is_wanting c.self.inside.sets c.in-Some.sets c.self.invariant.wanting there in
    let begun_found : c.begin.new.self.is_wanting ≡ false =
    ap (λ (one : Anchoring). one.is_wanting) (sym c.self.view_is) ∙ found in
    let finished =
    finished_timed (g.K.Sink.received c.args.out.now) (g.K.Sink.received c.finish.new.out) c.args.self.now
    c.begin.new.self (record { asked = asked; sets = Some c.finish.new.self; is_wanting = c.self.inside.is_wanting })
    c.in-Some.sets c.args.buffer.now c.finish.new.buffer c.begin.ensures.begun begun_there begun_found found
    (ap (λ (one : Anchoring). one.asked) c.self.view_is) c.finish.ensures.told in
    elim c.match-self.branch [
      | in-Some-1 w ↦ subst (λ (new : Anchoring). FinishesTimed true (g.K.Sink.received c.args.out.now)
          (g.K.Sink.received c.finish.new.out) c.args.self.now new c.args.buffer.now c.finish.new.buffer)
          (sym w.self-is) finished
      | in-None-1 w ↦ subst (λ (new : Anchoring). FinishesTimed true (g.K.Sink.received c.args.out.now)
          (g.K.Sink.received c.finish.new.out) c.args.self.now new c.args.buffer.now c.finish.new.buffer)
          (sym w.self-is) finished
    ]
