use Rattle.ts_packets.proofs.OneStep.{other_event, other_goes_on, other_unit}
use Rattle.ts_packets.proofs.demux.Demux.is_other.Goals as goal

pub returns-clause-goes_on : goal.returns-clause-goes_on
returns-clause-goes_on c is =
    rw (← c.self.view_is) (other_goes_on _ _ (c.is_other.ensures.0 is).0 (c.is_other.ensures.0 is).1)

pub returns-clause-event : goal.returns-clause-event
returns-clause-event c is =
    rw (← c.self.view_is) (other_event _ _ _ (c.is_other.ensures.0 is).1)

pub returns-clause-unit : goal.returns-clause-unit
returns-clause-unit c is =
    rw (← c.self.view_is) (other_unit _ _ _ (c.is_other.ensures.0 is).1)
