use Rattle.std.proofs.Common.{ℕ, Bool, subst}
use Rattle.set_reader.specs.Arrived.{arrival_value}
use Rattle.received_level_laws.specs.StreamCalls.{arrived_in, drop_where}
use Rattle.received_level_laws.specs.ToldSets.{of_no_set}
use Rattle.check_text.specs.Checking.{Counts}
use Rattle.check_text.proofs.SetLaws.{calls_taken}
use Rattle.check_text.proofs.calls.take_calls.Goals as goal

pub returns-clause-calls : goal.returns-clause-calls
returns-clause-calls g c =
    calls_taken c.args.event (arrival_value c.args.arrival) c.args.slot _ _ _ c.args.receiver.now
    c.take_first.new.receiver c.take_ready.new.receiver
    c.args.levels.now c.drop_where.new.levels c.take_first.new.levels c.arrive.new.levels c.take_ready.new.levels
    c.drop_where-2.new.levels c.args.buffer.now c.take_first.new.buffer c.take_ready.new.buffer
    (subst (λ (dropped : Bool). Counts c.args.levels.now c.drop_where.new.levels (drop_where of_no_set dropped))
    c.is_broken_off.ensures c.drop_where.ensures.calls)
    c.take_first.ensures.sets c.take_first.ensures.left
    (subst (λ (bytes : ℕ). Counts c.take_first.new.levels c.arrive.new.levels
    (arrived_in of_no_set c.args.slot bytes)) c.from.ensures c.arrive.ensures.calls)
    c.take_ready.ensures.sets c.take_ready.ensures.none c.drop_where-2.ensures.calls
