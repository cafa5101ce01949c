-- What is told once the stream has ended.
use Rattle.std.proofs.Common.{ℕ, List, ◌++◌, true, subst, arith}
use Rattle.command_text.specs.Putting.{PutsOut}
use Rattle.display_sets.proofs.ReadySets.{at_most_two}
use Rattle.fault_text.specs.Faulting.{Faulting, HasFaulted, faults_tell}
use Rattle.fault_text.proofs.FaultLaws.{end_told}
use Rattle.fault_text.proofs.faults.Faults.finish.Goals as goal

pub take_ready-requires-clause-few : goal.take_ready-requires-clause-few
take_ready-requires-clause-few g c = omega (arith, c.self.invariant.few, at_most_two c.finish.new.self.collecting.sets)

pub put_tally-requires : goal.put_tally-requires
put_tally-requires g c =
    omega (arith, c.self.invariant.few, at_most_two c.finish.new.self.collecting.sets, c.take_ready.ensures.few)

pub returns : goal.returns
returns g c =
    subst
    (λ (faulting : Faulting). (packets : List (List ℕ)) (text : List ℕ) → HasFaulted faulting packets text
    → (more : List ℕ) × faults_tell faulting true packets (text ++ more)
    × PutsOut (g.K.Sink.received c.args.out.now) (g.K.Sink.received c.put_tally.new.out) c.args.buffer.now
    c.put_tally.new.buffer more) c.self.view_is
    (end_told c.self.inside.receiver c.finish.new.self c.take_ready.new.receiver c.self.inside.tally
    c.take_ready.new.tally c.self.inside.known c.take_ready.new.known c.self.inside.kept.room _ _ _ c.args.buffer.now
    c.take_ready.new.buffer c.put_tally.new.buffer
    c.finish.ensures.same (λ fed given stands. c.finish.ensures.stands fed given stands)
    c.take_ready.ensures.sets c.take_ready.ensures.all c.put_tally.ensures)
