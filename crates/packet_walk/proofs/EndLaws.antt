-- What was told by the end of a walk.
use Rattle.std.proofs.Common.{ℕ, List, ◌++◌}
use Rattle.packet_source.specs.declared.stream_end.StreamEnd.TheVariants as stream
use Rattle.command_text.specs.Putting.{Buffered, PutsOut}
use Rattle.sub_base.specs.Endpoints.{Received, Supplied}
use Rattle.packet_walk.specs.Walking.{IsEnd, IsToldFrom}
use Rattle.packet_walk.specs.declared.walk.WalkEnd.{WalkEnd}
use Rattle.packet_walk.specs.declared.walk.WalkEnd.TheVariants as end

module _ (Told Other : List (List ℕ) → List ℕ → Type 0) where
  same_told : (pid : ℕ) (before now : Supplied) (start out : Received) (buffer : Buffered) (packets : List (List ℕ))
      (rest : List ℕ)
      → ((packets : List (List ℕ)) (text : List ℕ) → Told packets text → Other packets text)
      → IsToldFrom Told pid before now start out buffer packets rest
      → IsToldFrom Other pid before now start out buffer packets rest
  same_told pid before now start out buffer packets rest same told = record {
    taken = told.taken;
    text = told.text;
    told = same packets told.text told.told;
    put_out = told.put_out;
  }

  -- the same text, as it is told by another relation
  pub end_told : (pid : ℕ) (before now : Supplied) (start out : Received) (buffer : Buffered) (ended : WalkEnd)
      → ((packets : List (List ℕ)) (text : List ℕ) → Told packets text → Other packets text)
      → IsEnd Told pid before now start out buffer ended → IsEnd Other pid before now start out buffer ended
  end_told pid before now start out buffer (end.Stream (stream.Whole cut)) same is =
      (is.0, is.1, same_told pid before now start out buffer is.0 is.1 same is.2, is.3, is.4, is.5, is.6)
  end_told pid before now start out buffer (end.Stream stream.Unread) same is =
      (is.0, is.1, same_told pid before now start out buffer is.0 is.1 same is.2, is.3, is.4, is.5)
  end_told pid before now start out buffer (end.Stream stream.TooLong) same is =
      (is.0, is.1, same_told pid before now start out buffer is.0 is.1 same is.2, is.3)
  end_told pid before now start out buffer (end.Refused refused) same is = (
    is.0,
    is.1,
    is.2,
    same_told pid before now start out buffer is.0 (is.1 ++ is.2) same
        is.3,
    is.4,
    is.5,
    is.6,
    is.7,
  )
  end_told pid before now start out buffer end.Unwritten same is =
      (is.0, is.1, same_told pid before now start out buffer is.0 is.1 same is.2, is.3, is.4)

  -- the stream was read whole, and more was put out then
  pub end_told_on : (pid : ℕ) (before now : Supplied) (start out next : Received) (buffer new : Buffered) (cut : ℕ)
      → ((packets : List (List ℕ)) (text : List ℕ) → Told packets text → (more : List ℕ)
      × Other packets (text ++ more) × PutsOut out next buffer new more)
      → IsEnd Told pid before now start out buffer (end.Stream (stream.Whole cut))
      → IsEnd Other pid before now start next new (end.Stream (stream.Whole cut))
  end_told_on pid before now start out next buffer new cut goes is =
      let more = goes is.0 is.2.text is.2.told in (
        is.0,
        is.1,
        record {
          taken = is.2.taken;
          text = is.2.text ++ more.0;
          told = more.1;
          put_out = more.2.extends start is.2.text is.2.put_out;
        },
        is.3,
        is.4,
        is.5,
        is.6,
      )
