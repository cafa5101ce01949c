use Rattle.std.proofs.Common.{◌∙◌, sym}
use Rattle.packet_walk.proofs.FinishLaws.{finished_before, finished_whole}
use Rattle.dump_text.proofs.DumpLaws.{dumped_so_far}
use Rattle.dump_text.specs.Dumping.{HasDumped, dump_tells}
use Rattle.dump_text.proofs.streaming.finish.Goals as goal

pub returns-then-is_whole : goal.returns-then-is_whole
returns-then-is_whole g c =
    finished_whole (HasDumped c.args.dump.now) (dump_tells c.args.dump.now) _ _ c.args.buffer.now c.finish.new.buffer
    c.args.end (sym c.is_whole.ensures ∙ c.if-is_whole.true) c.finish.ensures

pub returns-else-is_whole : goal.returns-else-is_whole
returns-else-is_whole g c =
    finished_before (HasDumped c.args.dump.now) (dump_tells c.args.dump.now) _ c.args.buffer.now c.args.end
    (sym c.is_whole.ensures ∙ c.if-is_whole.false) (dumped_so_far c.args.dump.now)
