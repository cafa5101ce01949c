use Rattle.std.proofs.Common.{◌∙◌, sym}
use Rattle.packet_walk.proofs.FinishLaws.{finished_before, finished_whole}
use Rattle.stream_report.specs.Private.Picturing.{HasPictured, pictures_tell}
use Rattle.stream_report.proofs.PictureLaws.{pictured_so_far}
use Rattle.stream_report.proofs.picture_tool.finish.Goals as goal

pub returns-then-is_whole : goal.returns-then-is_whole
returns-then-is_whole g c =
    finished_whole (HasPictured c.args.pictures.now) (pictures_tell c.args.pictures.now) _ _ c.args.buffer.now
    c.finish.new.buffer c.args.end (sym c.is_whole.ensures ∙ c.if-is_whole.true) c.finish.ensures

pub returns-else-is_whole : goal.returns-else-is_whole
returns-else-is_whole g c =
    finished_before (HasPictured c.args.pictures.now) (pictures_tell c.args.pictures.now) _ c.args.buffer.now
    c.args.end (sym c.is_whole.ensures ∙ c.if-is_whole.false) (pictured_so_far c.args.pictures.now)
