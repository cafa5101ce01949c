use Rattle.std.proofs.Common.{refl, arith}
use Rattle.ts_packets.proofs.OneStep.{steps_goes_on, steps_event, steps_unit}
use Rattle.ts_packets.proofs.demux.Demux.feed.Goals as goal

pub returns : goal.returns
returns c = (
  (refl, λ _. tt, steps_goes_on _ _ _ _ c.in_ok-step.ensures.steps),
  record {
    after = tt;
    fault = c.in_ok-step.ensures.steps.takes;
    event = steps_event _ _ _ _ c.in_ok-step.ensures.steps;
    unit = steps_unit _ _ _ _ _ c.in_ok-step.ensures.steps c.first_bytes.ensures.lent;
    short = λ bytes lent.
        let found = c.first_bytes.ensures.short bytes lent in
        let within = c.in_ok-step.ensures.short found.0 found.1 in
        omega (arith, within, found.2);
  },
)
