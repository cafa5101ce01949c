-- What was told, by the end of the walk.
use Rattle.std.proofs.Common.{◌≡◌, ℕ, true, false, List, ◌++◌}
use Rattle.command_text.specs.Putting.{Buffered, PutsOut}
use Rattle.packet_source.specs.declared.stream_end.StreamEnd.TheVariants as stream
use Rattle.packet_walk.proofs.EndLaws.{end_told, end_told_on}
use Rattle.packet_walk.specs.declared.walk.WalkEnd.{WalkEnd}
use Rattle.packet_walk.specs.declared.walk.WalkEnd.TheVariants as end
use Rattle.sub_base.specs.Endpoints.{Received}
use Rattle.packet_walk.specs.Closing.{FinishesTold, is_whole_end}
use Rattle.packet_walk.specs.ToldEnds.{Telling}

module _ (Before : List (List ℕ) → List ℕ → Type 0) (Told : Telling) where
  -- what is told with the end of the stream, where it was read to its end
  pub finished_whole : (out next : Received) (buffer new : Buffered) (ended : WalkEnd) → is_whole_end ended ≡ true
      → ((packets : List (List ℕ)) (text : List ℕ) → Before packets text → (more : List ℕ)
      × Told true packets (text ++ more) × PutsOut out next buffer new more)
      → FinishesTold Before Told out next buffer new ended
  finished_whole out next buffer new (end.Stream (stream.Whole cut)) whole goes pid before now start is =
      end_told_on Before (Told true) pid before now start out next buffer new cut goes is
  finished_whole out next buffer new (end.Stream stream.Unread) whole goes pid before now start is = absurd cc
  finished_whole out next buffer new (end.Stream stream.TooLong) whole goes pid before now start is = absurd cc
  finished_whole out next buffer new (end.Refused refused) whole goes pid before now start is = absurd cc
  finished_whole out next buffer new end.Unwritten whole goes pid before now start is = absurd cc

  -- and what is told without it
  pub finished_before : (out : Received) (buffer : Buffered) (ended : WalkEnd) → is_whole_end ended ≡ false
      → ((packets : List (List ℕ)) (text : List ℕ) → Before packets text → Told false packets text)
      → FinishesTold Before Told out out buffer buffer ended
  finished_before out buffer (end.Stream (stream.Whole cut)) other so_far pid before now start is = absurd cc
  finished_before out buffer (end.Stream stream.Unread) other so_far pid before now start is =
      end_told Before (Told false) pid before now start out buffer (end.Stream stream.Unread) so_far is
  finished_before out buffer (end.Stream stream.TooLong) other so_far pid before now start is =
      end_told Before (Told false) pid before now start out buffer (end.Stream stream.TooLong) so_far is
  finished_before out buffer (end.Refused refused) other so_far pid before now start is =
      end_told Before (Told false) pid before now start out buffer (end.Refused refused) so_far is
  finished_before out buffer end.Unwritten other so_far pid before now start is =
      end_told Before (Told false) pid before now start out buffer end.Unwritten so_far is
