use Rattle.std.proofs.Common.{subst, Ok, Err}
use Rattle.csv.specs.Records.{fields_of}
use Rattle.live_plan.specs.LiveCalls.{LiveState}
use Rattle.live_plan.specs.Private.Accepting.{AnswersRow, live_of}
use Rattle.live_plan.proofs.LetRows.{TakesNext, answered_live, record_left, record_room, record_taken}
use Rattle.live_plan.proofs.live.Live.take_record.Goals as goal

pub invariant_of-self : goal.invariant_of-self
invariant_of-self c =
    let old = c.self.inside.accepted in
    let new = c.take_next.new.self in
    let last = c.self.inside.last in
    let outlet = c.self.inside.outlet in
    let cells = fields_of c.args.row.now in
    answered_live (live_of old last outlet) (live_of new last outlet) cells (Err c.in-Err.fault)
    (record_left old new last outlet cells c.in-Err.fault c.requires.plain c.in-Err.ensures.refused
    c.take_next.ensures.inserter)
    c.take_next.ensures.inserter c.self.invariant.small c.self.invariant

pub returns-in-Err-clause-answer : goal.returns-in-Err-clause-answer
returns-in-Err-clause-answer c =
    let old = c.self.inside.accepted in
    let new = c.take_next.new.self in
    let last = c.self.inside.last in
    let outlet = c.self.inside.outlet in
    let cells = fields_of c.args.row.now in
    subst (λ (live : LiveState). AnswersRow live (live_of new last outlet) cells (Err c.in-Err.fault)) c.self.view_is
    (record_left old new last outlet cells c.in-Err.fault c.requires.plain c.in-Err.ensures.refused
    c.take_next.ensures.inserter)

pub take_left-requires : goal.take_left-requires
take_left-requires c =
    let old = c.self.inside.accepted in
    let new = c.take_next.new.self in
    let last = c.self.inside.last in
    let outlet = c.self.inside.outlet in
    let cells = fields_of c.args.row.now in
    record {
      room = record_room old new last outlet cells c.in-Ok.left c.requires.plain
          (subst (λ sent. TakesNext old new cells last sent c.in-Ok.left) c.sent-sent.ensures c.in-Ok.ensures.taken)
          c.self.invariant;
    }

pub invariant_of-self-2 : goal.invariant_of-self-2
invariant_of-self-2 c =
    let old = c.self.inside.accepted in
    let new = c.take_next.new.self in
    let last = c.self.inside.last in
    let outlet = c.self.inside.outlet in
    let now = c.take_left.new.self in
    let cells = fields_of c.args.row.now in
    answered_live (live_of old last outlet) (live_of new last now) cells (Ok tt)
    (record_taken old new last outlet now cells c.in-Ok.left c.requires.plain
    (subst (λ sent. TakesNext old new cells last sent c.in-Ok.left) c.sent-sent.ensures c.in-Ok.ensures.taken)
    c.take_next.ensures.inserter c.take_left.ensures)
    c.take_next.ensures.inserter c.self.invariant.small c.self.invariant

pub returns-clause-answer : goal.returns-clause-answer
returns-clause-answer c =
    let old = c.self.inside.accepted in
    let new = c.take_next.new.self in
    let last = c.self.inside.last in
    let outlet = c.self.inside.outlet in
    let now = c.take_left.new.self in
    let cells = fields_of c.args.row.now in
    subst (λ (live : LiveState). AnswersRow live (live_of new last now) cells (Ok tt)) c.self.view_is
    (record_taken old new last outlet now cells c.in-Ok.left c.requires.plain
    (subst (λ sent. TakesNext old new cells last sent c.in-Ok.left) c.sent-sent.ensures c.in-Ok.ensures.taken)
    c.take_next.ensures.inserter c.take_left.ensures)
