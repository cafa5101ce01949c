use Rattle.std.proofs.Common.{◌∙◌, sym, subst, ap}
use Rattle.decoder_model.specs.declared.set_end.SetEnd.{SetEnd}
use Rattle.page_core.specs.Scenes.{until_in as until_in_memory}
use Rattle.stream_report.specs.Private.Picturing.{IsUntilIn}
use Rattle.stream_report.proofs.UntilLaws.{until_none, until_shown}
use Rattle.stream_report.proofs.pictures.until_in.Goals as goal

pub returns-in-Shown : goal.returns-in-Shown
returns-in-Shown c =
    subst (λ (end : SetEnd). IsUntilIn c.args.core.now end c.until.result) (sym c.in-Shown.is)
    (until_shown c.args.core.now c.until.result (λ past stands. c.scene.ensures.shown past stands)
    (c.until.ensures ∙ ap until_in_memory c.scene.ensures.same))

pub returns-in_default : goal.returns-in_default
returns-in_default c = until_none c.args.core.now c.args.end c.in_default.not-Shown
