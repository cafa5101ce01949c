use Rattle.std.proofs.Common.{◌≡◌, ◌*◌, ℕ, List, drop, true, false, ap, sym, subst}
use Rattle.std.specs.Io.KnownBytes.{Appends}
use Rattle.sub_base.specs.Endpoints.{AppendsPrefix}
use Rattle.live_plan.specs.Outlets.{IsOutletOf, OutletState}
use Rattle.live_plan.proofs.OutletLaws.{InOrder, due_left, due_sent}
use Rattle.live_plan.proofs.outlet.Outlet.write_due.Goals as goal

pub returns-in-Ok-clause-writes : goal.returns-in-Ok-clause-writes
returns-in-Ok-clause-writes g c = λ packets due whole.
    let outlet : OutletState = record {
      kept = c.self.inside.kept;
      sent = c.self.inside.sent;
      due = c.self.inside.due;
      count = c.self.inside.count;
      closed = c.self.inside.closed;
    } in
    let good : InOrder outlet = record {
      sent = c.self.invariant.0;
      due = c.self.invariant.1;
      kept = c.self.invariant.2;
    } in
    let own = subst (IsOutletOf packets due) (sym c.self.view_is) whole in
    let Written : List ℕ → Type 0 =
    λ bytes. Appends (g.K.Sink.received c.args.out.now).written (g.K.Sink.received c.write.new.sink).written bytes in
    let appended = subst Written (due_left packets due outlet good own) c.in-Ok.ensures.all in (
      subst (λ (state : OutletState). Written (drop (188 * state.sent) due)) c.self.view_is appended,
      λ more. (
        ap (λ (state : OutletState). state.due) c.self.view_is,
        due_sent packets due outlet (record outlet { sent = outlet.due }) good own
            (λ i. record outlet { sent = outlet.due }),
      ),
    )

pub returns-in-Err-clause-writes : goal.returns-in-Err-clause-writes
returns-in-Err-clause-writes g c = λ packets due whole.
    let outlet : OutletState = record {
      kept = c.self.inside.kept;
      sent = c.self.inside.sent;
      due = c.self.inside.due;
      count = c.self.inside.count;
      closed = c.self.inside.closed;
    } in
    let good : InOrder outlet = record {
      sent = c.self.invariant.0;
      due = c.self.invariant.1;
      kept = c.self.invariant.2;
    } in
    let own = subst (IsOutletOf packets due) (sym c.self.view_is) whole in
    let Written : List ℕ → Type 0 =
    λ bytes. AppendsPrefix (g.K.Sink.received c.args.out.now).written (g.K.Sink.received c.write.new.sink).written
    bytes in
    let appended = subst Written (due_left packets due outlet good own) c.in-Err.ensures.front in (
      (
        subst (λ (state : OutletState). Written (drop (188 * state.sent) due)) c.self.view_is appended,
        c.in-Err.ensures.cause,
      ),
      λ never. absurd (let clash : true ≡ false = never in cc),
    )
