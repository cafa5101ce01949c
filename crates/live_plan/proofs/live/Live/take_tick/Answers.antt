use Rattle.std.proofs.Common.{◌∙◌, refl, sym, subst, Some, Ok}
use Rattle.csv.specs.Records.{fields_of}
use Rattle.live_plan.specs.LiveCalls.{LiveState}
use Rattle.live_plan.specs.LiveRows.{slots_by}
use Rattle.live_plan.specs.Private.Accepting.{AnswersRow, live_of}
use Rattle.live_plan.proofs.LetRows.{answered_live, tick_passed, tick_room}
use Rattle.live_plan.proofs.live.Live.take_tick.Goals as goal

pub set_due-requires : goal.set_due-requires
set_due-requires c = record {
  later = tick_room (live_of c.self.inside.accepted c.self.inside.last c.self.inside.outlet) (fields_of c.args.row.now)
      c.in-Ok.tick c.slots_by-due.result (sym c.in-Ok.ensures.fault) c.in-Ok.ensures.tick
      (c.slots_by-due.ensures
      ∙ (λ i. slots_by (c.origin-origin.ensures i) (c.step.ensures.step i) c.in-Ok.tick)) c.self.invariant;
}

pub invariant_of-self : goal.invariant_of-self
invariant_of-self c =
    let live = live_of c.self.inside.accepted c.self.inside.last c.self.inside.outlet in
    let cells = fields_of c.args.row.now in
    answered_live live (live_of c.self.inside.accepted (Some c.in-Ok.tick) c.set_due.new.self) cells (Ok tt)
    (tick_passed live c.set_due.new.self cells c.in-Ok.tick c.slots_by-due.result c.requires.is_tick
    (sym c.in-Ok.ensures.fault) c.in-Ok.ensures.tick
    (c.slots_by-due.ensures ∙ (λ i. slots_by (c.origin-origin.ensures i) (c.step.ensures.step i) c.in-Ok.tick))
    c.set_due.ensures)
    refl c.in-Ok.ensures.small c.self.invariant

pub returns-clause-answer : goal.returns-clause-answer
returns-clause-answer c =
    let live = live_of c.self.inside.accepted c.self.inside.last c.self.inside.outlet in
    let cells = fields_of c.args.row.now in
    subst
    (λ (old : LiveState).
    AnswersRow old (live_of c.self.inside.accepted (Some c.in-Ok.tick) c.set_due.new.self) cells (Ok tt))
    c.self.view_is
    (tick_passed live c.set_due.new.self cells c.in-Ok.tick c.slots_by-due.result c.requires.is_tick
    (sym c.in-Ok.ensures.fault) c.in-Ok.ensures.tick
    (c.slots_by-due.ensures ∙ (λ i. slots_by (c.origin-origin.ensures i) (c.step.ensures.step i) c.in-Ok.tick))
    c.set_due.ensures)
