use Rattle.std.proofs.Common.{◌∙◌}
use Rattle.cue_records.proofs.TextLaws.{is_ok-is_utf8}
use Rattle.cue_records.proofs.texts.is_utf8.Goals as goal

pub returns : goal.returns
returns c = c.is_ok.ensures.value ∙ is_ok-is_utf8 _ _ _ _ c.from_utf8.ensures.cases
