use Rattle.std.proofs.Common.{◌∙◌, ◌∷◌, sym, ap}
use Rattle.csv.specs.Records.{fields_of}
use Rattle.cue_list.specs.SeenReaders.{mark_of, seen_of}
use Rattle.live_plan.specs.LiveRows.{row, rows_in}
use Rattle.live_plan.specs.Private.Accepting.{horizon_over, inserter_in}
use Rattle.live_plan.proofs.LeftLaws.{accepted_back, accepted_next, accepted_still, first_is_early, next_refused}
use Rattle.live_plan.proofs.accepted.Accepted.take_next.Goals as goal

pub left_late-requires-clause-stands : goal.left_late-requires-clause-stands
left_late-requires-clause-stands c =
    let past = c.requires.stands.0 in
    let are = c.requires.stands.1 in (
      row (fields_of c.args.row.now) ∷ past,
      accepted_next c.args.self.now c.take.new.self past (fields_of c.args.row.now) (mark_of c.in-Ok.before) are
          (c.in-Ok.ensures.taken (rows_in past) are.stands),
    )

pub returns-in-Ok-left_late-clause-taken : goal.returns-in-Ok-left_late-clause-taken
returns-in-Ok-left_late-clause-taken c = λ past are.
    let own = c.args.self.now in
    let cells = fields_of c.args.row.now in
    let takes = c.in-Ok.ensures.taken (rows_in past) are.stands in
    let next = accepted_next own c.take.new.self past cells (mark_of c.in-Ok.before) are takes in
    let has = c.in-Ok-left_late.ensures.left (row cells ∷ past) next in
    let first = first_is_early own.font past cells (seen_of own.reader) c.first_tick-first.result are.stands takes.valid
    c.first_tick-first.ensures in (
      record {
        valid = takes.valid;
        late = ap (λ tick. horizon_over tick c.args.last) (sym first) ∙ has.late;
        has_left = has.has_left;
      },
      accepted_still (record own { reader = c.take.new.self }) c.left_late.new.self (row cells ∷ past) next
          c.left_late.ensures.inserter c.left_late.ensures.seen c.in-Ok-left_late.ensures.blocks,
    )

pub returns-in-Err-left_late-clause-refused : goal.returns-in-Err-left_late-clause-refused
returns-in-Err-left_late-clause-refused c = λ past are.
    let own = c.args.self.now in
    let cells = fields_of c.args.row.now in
    let takes = c.in-Ok.ensures.taken (rows_in past) are.stands in
    let next = accepted_next own c.take.new.self past cells (mark_of c.in-Ok.before) are takes in
    let first = first_is_early own.font past cells (seen_of own.reader) c.first_tick-first.result are.stands takes.valid
    c.first_tick-first.ensures in (
      next_refused (inserter_in own) past cells c.first_tick-first.result c.args.last c.in-Err-left_late.fault
          takes.valid first (c.in-Err-left_late.ensures.refused (row cells ∷ past) next),
      accepted_back own c.left_late.new.self c.take.new.self c.go_back.new.self past cells (mark_of c.in-Ok.before) are
          takes c.left_late.ensures.inserter c.left_late.ensures.seen c.in-Err-left_late.ensures.back
          c.go_back.ensures,
    )
