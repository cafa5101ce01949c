-- The painting of a set that is kept and not broken.
use Rattle.std.proofs.Common.{◌∙◌, Some, sym, ap, subst}
use Rattle.decoder_model.specs.Faults.{contents_in}
use Rattle.decoder_model.specs.Painting.{painting_by}
use Rattle.decoder_model.specs.declared.set_end.SetEnd.{SetEnd}
use Rattle.set_receiver.specs.Private.Verdicts.{IsVerdictOf}
use Rattle.set_receiver.proofs.Loads.{contents_are}
use Rattle.set_receiver.proofs.taking.painted.Goals as goal

pub returns-in-Shown-clause-painting : goal.returns-in-Shown-clause-painting
returns-in-Shown-clause-painting c readings are says =
    c.painting_time.ensures.time (contents_in readings)
    (contents_are readings c.args.bytes.now (subst (IsVerdictOf readings) c.in-Shown.is says) are)
    ∙ ap (λ (end : SetEnd). painting_by readings (Some end)) (sym c.in-Shown.is)

pub returns-in-Waiting-clause-painting : goal.returns-in-Waiting-clause-painting
returns-in-Waiting-clause-painting c readings are says =
    c.painting_time-in-Waiting.ensures.time (contents_in readings)
    (contents_are readings c.args.bytes.now (subst (IsVerdictOf readings) c.in-Waiting.is says) are)
    ∙ ap (λ (end : SetEnd). painting_by readings (Some end)) (sym c.in-Waiting.is)
