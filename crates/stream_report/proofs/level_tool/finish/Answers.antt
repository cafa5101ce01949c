use Rattle.std.proofs.Common.{◌∙◌, sym}
use Rattle.level_text.proofs.LevelLaws.{levelled_so_far}
use Rattle.level_text.specs.Levelling.{HasLevelled, levels_tell}
use Rattle.packet_walk.proofs.FinishLaws.{finished_before, finished_whole}
use Rattle.stream_report.proofs.level_tool.finish.Goals as goal

pub returns-then-is_whole : goal.returns-then-is_whole
returns-then-is_whole g c =
    finished_whole (HasLevelled c.args.levels.now) (levels_tell c.args.levels.now) _ _ c.args.buffer.now
    c.finish.new.buffer c.args.end (sym c.is_whole.ensures ∙ c.if-is_whole.true) c.finish.ensures

pub returns-else-is_whole : goal.returns-else-is_whole
returns-else-is_whole g c =
    finished_before (HasLevelled c.args.levels.now) (levels_tell c.args.levels.now) _ c.args.buffer.now c.args.end
    (sym c.is_whole.ensures ∙ c.if-is_whole.false) (levelled_so_far c.args.levels.now)
