use Rattle.std.proofs.Common.{◌∙◌, sym}
use Rattle.fault_text.specs.Faulting.{HasFaulted, faults_tell}
use Rattle.fault_text.proofs.FaultLaws.{faulted_so_far}
use Rattle.packet_walk.proofs.FinishLaws.{finished_before, finished_whole}
use Rattle.stream_report.proofs.fault_tool.finish.Goals as goal

pub returns-then-is_whole : goal.returns-then-is_whole
returns-then-is_whole g c =
    finished_whole (HasFaulted c.args.faults.now) (faults_tell c.args.faults.now) _ _ c.args.buffer.now
    c.finish.new.buffer c.args.end (sym c.is_whole.ensures ∙ c.if-is_whole.true) c.finish.ensures

pub returns-else-is_whole : goal.returns-else-is_whole
returns-else-is_whole g c =
    finished_before (HasFaulted c.args.faults.now) (faults_tell c.args.faults.now) _ c.args.buffer.now
    c.args.end (sym c.is_whole.ensures ∙ c.if-is_whole.false) (faulted_so_far c.args.faults.now)
