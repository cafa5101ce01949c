-- How the telling of a stream ends once its walk has ended and the text that waits is written.
use Rattle.std.specs.Prelude.{◌≡◌, ℕ, Bool, true, false, List, ◌⊎◌}
use Rattle.std.specs.Io.KnownBytes.{Appends}
use Rattle.sub_base.specs.Counts.{HasRisen}
use Rattle.sub_base.specs.Endpoints.{AppendsPrefix, Received, Supplied}
use Rattle.command_text.specs.Putting.{Buffered, IsPutOut}
use Rattle.packet_source.specs.declared.stream_end.StreamEnd.TheVariants as stream
use Rattle.packet_walk.specs.Walking.{IsEnd}
use Rattle.packet_walk.specs.declared.walk.WalkEnd.{WalkEnd}
use Rattle.packet_walk.specs.declared.walk.WalkEnd.TheVariants as end
use Rattle.packet_walk.specs.ToldEnds.{Telling}
use Rattle.packet_walk.specs.declared.told_end.ToldEnd.{ToldEnd}
use Rattle.packet_walk.specs.declared.told_end.ToldEnd.TheVariants as told_end

-- the walk ended with the stream, read whole
abbrev pub is_whole_end : WalkEnd → Bool
is_whole_end (end.Stream (stream.Whole cut)) = true
is_whole_end (end.Stream stream.Unread) = false
is_whole_end (end.Stream stream.TooLong) = false
is_whole_end (end.Refused refused) = false
is_whole_end end.Unwritten = false

-- a walk has ended so, and the text of its packets was put out, up to the end of the stream where it was read whole
abbrev pub HasEnded : Telling → ℕ → Supplied → Supplied → Received → Received → Buffered → WalkEnd
    → Type 0
HasEnded Told pid before now start out buffer ended =
    IsEnd (Told (is_whole_end ended)) pid before now start out buffer ended

-- whatever was told by the end of a walk, the text of its packets is put out, up to the end of the stream where it was
-- read whole
abbrev pub FinishesTold : (List (List ℕ) → List ℕ → Type 0) → Telling → Received → Received → Buffered
    → Buffered → WalkEnd
    → Type 0
FinishesTold Before Told out next buffer new ended = (pid : ℕ) (before now : Supplied) (start : Received)
    → IsEnd Before pid before now start out buffer ended → HasEnded Told pid before now start next new ended

-- the text that was put out since a start was written whole, and the answer is that of the run; or the sink has
-- received a prefix of it, and its count of faults rose
abbrev pub ClosesWalk : Received → Received → Buffered → ToldEnd → ToldEnd → Type 0
ClosesWalk before now buffer run answer = (start : Received) (text : List ℕ) → IsPutOut start before buffer text
    → ((answer ≡ run) × Appends start.written now.written text)
    ⊎ ((answer ≡ told_end.Unwritten) × AppendsPrefix start.written now.written text
    × HasRisen start.faults now.faults)

-- what is answered by the end of the walk, once the text that waits is written; of a stream that is too long, and of
-- one whose text could not be written, nothing more is written
abbrev pub ClosesEnd : Received → Received → Buffered → WalkEnd → ToldEnd → Type 0
ClosesEnd before now buffer (end.Stream (stream.Whole cut)) answer =
    ClosesWalk before now buffer (told_end.Done cut) answer
ClosesEnd before now buffer (end.Stream stream.Unread) answer =
    ClosesWalk before now buffer told_end.Unread answer
ClosesEnd before now buffer (end.Stream stream.TooLong) answer =
    (answer ≡ told_end.TooLong) × (now ≡ before)
ClosesEnd before now buffer (end.Refused refused) answer =
    ClosesWalk before now buffer (told_end.Refused refused) answer
ClosesEnd before now buffer end.Unwritten answer = (answer ≡ told_end.Unwritten) × (now ≡ before)
