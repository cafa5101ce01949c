-- How a command ends whose walk over a stream has ended.
use Rattle.std.specs.Prelude.{◌≡◌}
use Rattle.command_text.specs.Putting.{Buffered}
use Rattle.packet_walk.specs.Closing.{ClosesEnd as ClosesToldEnd}
use Rattle.packet_walk.specs.declared.told_end.ToldEnd.{ToldEnd}
use Rattle.packet_walk.specs.declared.walk.WalkEnd.{WalkEnd}
use Rattle.sub_base.specs.Endpoints.{Received}
use Rattle.dvbsub_cmd.specs.StreamOutcome.{status_of_end}
use Rattle.dvbsub_cmd.specs.declared.status.Status.{Status}
pub use Rattle.packet_walk.specs.Closing.{FinishesTold, HasEnded, is_whole_end}

-- what a command answers by the end of its walk, once the text that waits is written
abbrev pub ClosesEnd : Received → Received → Buffered → WalkEnd → Status → Type 0
ClosesEnd before now buffer ended answer =
    (run : ToldEnd) × ClosesToldEnd before now buffer ended run × (answer ≡ status_of_end run)
