-- The end of a walk over packets that arrive by the clock of their programme.
use Rattle.std.specs.Prelude.{◌≡◌, Bool, true, false, ◌⊎◌}
use Rattle.command_text.specs.Putting.{Buffered}
use Rattle.level_text.specs.Following.{Following, HasFollowed}
use Rattle.packet_walk.specs.Closing.{FinishesTold}
use Rattle.packet_walk.specs.ToldEnds.{IsFront, Telling}
use Rattle.packet_walk.specs.Walking.{IsEnd}
use Rattle.packet_walk.specs.declared.walk.WalkEnd.{WalkEnd}
use Rattle.sub_base.specs.Endpoints.{Received, Supplied, WroteNothing}
use Rattle.stream_report.specs.LevelsOutcome.{tells_of}
use Rattle.stream_report.specs.declared.levels_words.Arrival.TheVariants as arrival

-- what is told by the clock of a programme
abbrev pub told_by_clock : Following → Telling
told_by_clock followed = tells_of arrival.Clock followed.levels.meter.asked

-- the text of all packets was put out; or memory is wanting, and nothing was written, or a prefix of the text
pub record FinishesByClock (followed : Following) (out next : Received) (buffer new : Buffered) (ended : WalkEnd)
    (wanting : Bool) : Type 0 where
  pub told : wanting ≡ false → FinishesTold (HasFollowed followed) (told_by_clock followed) out next buffer new ended
  pub stopped : wanting ≡ true → (before now : Supplied) (start : Received)
      → IsEnd (HasFollowed followed) followed.levels.meter.asked.pid before now start out buffer ended
      → WroteNothing start next
      ⊎ IsFront (told_by_clock followed) followed.levels.meter.asked.pid before now start next
