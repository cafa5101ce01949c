use Rattle.ts_packets.proofs.OneStep.{other_steps, damaged_steps, empty_steps, payload_steps}
use Rattle.ts_packets.proofs.demux.Demux.step.Goals as goal

pub returns-in-Other-clause-steps : goal.returns-in-Other-clause-steps
returns-in-Other-clause-steps c =
    let kind = rw c.in-Other.is at c.in_ok-kind_of.ensures in
    rw (c.alone.ensures, ← c.self.view_is) (other_steps _ _ kind.0 kind.1)

pub returns-in-Damaged-clause-steps : goal.returns-in-Damaged-clause-steps
returns-in-Damaged-clause-steps c =
    let kind = rw c.in-Damaged.is at c.in_ok-kind_of.ensures in
    rw (c.break_off.ensures.state, c.break_off.ensures.answer)
    (damaged_steps _ _ (rw (← c.self.view_is) kind.0) (rw (← c.self.view_is) kind.1.0) kind.1.1)

pub returns-in-Empty-clause-steps : goal.returns-in-Empty-clause-steps
returns-in-Empty-clause-steps c =
    let kind = rw c.in-Empty.is at c.in_ok-kind_of.ensures in
    rw (c.alone-in-Empty.ensures, ← c.self.view_is) (empty_steps _ _ kind.0 kind.1.0 kind.1.1 kind.1.2)

pub returns-in-Payload-clause-steps : goal.returns-in-Payload-clause-steps
returns-in-Payload-clause-steps c =
    let kind = rw c.in-Payload.is at c.in_ok-kind_of.ensures in
    let pid_is = c.self.view_is in
    payload_steps _ _ _ _ c.in-Payload.payload (rw (← c.self.view_is) kind.0) (rw (← c.self.view_is) kind.1.0)
    kind.1.1 kind.1.2 kind.1.3 c.take.ensures.answers c.take.ensures.counter
