use Rattle.std.proofs.Common.{◌∙◌, sym}
use Rattle.check_text.specs.Checking.{HasChecked}
use Rattle.check_text.proofs.CheckLaws.{text_so_far}
use Rattle.dvbsub_cmd.specs.Checks.{check_tells}
use Rattle.dvbsub_cmd.proofs.FinishLaws.{finished_before, finished_whole}
use Rattle.dvbsub_cmd.proofs.check.finish.Goals as goal

pub returns-then-is_whole : goal.returns-then-is_whole
returns-then-is_whole g c =
    finished_whole (HasChecked c.args.check.now) (check_tells c.args.check.now) _ _ c.args.buffer.now
    c.finish.new.buffer c.args.end (sym c.is_whole.ensures ∙ c.if-is_whole.true) c.finish.ensures

pub returns-else-is_whole : goal.returns-else-is_whole
returns-else-is_whole g c =
    finished_before (HasChecked c.args.check.now) (check_tells c.args.check.now) _ c.args.buffer.now c.args.end
    (sym c.is_whole.ensures ∙ c.if-is_whole.false) (text_so_far c.args.check.now)
