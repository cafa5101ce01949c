use Rattle.packet_walk.proofs.CloseLaws.{closed}
use Rattle.pid_text.specs.PidText.{NO_PID}
use Rattle.stream_report.specs.PidsOutcome.{tells_pids}
use Rattle.stream_report.proofs.PidsLaws.{nothing_written, pids_end}
use Rattle.stream_report.proofs.pids_tool.tell_pids.Goals as goal

pub returns-then-is_wanting : goal.returns-then-is_wanting
returns-then-is_wanting g c =
    nothing_written c.walk_packets-end.new.teller _ _ _ _ c.walk_packets-end.new.buffer c.walk_packets-end.result
    c.walk_packets-end.ensures.end

pub returns : goal.returns
returns g c =
    pids_end _ _ _ _ c.close_walk.result
    (closed tells_pids NO_PID _ _ _ _ _ c.finish.new.buffer c.walk_packets-end.result c.close_walk.result
    (c.finish.ensures NO_PID _ _ _ c.walk_packets-end.ensures.end) c.close_walk.ensures)
