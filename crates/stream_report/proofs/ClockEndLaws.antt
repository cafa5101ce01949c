-- The end of `levels` by the clock of a programme.
use Rattle.std.proofs.Common.{◌≡◌, ℕ, ◌⊎◌, inl, inr, Bool, true, false, ◌||◌, List, [], ◌++◌, append-nil, refl, subst, arith}
use Rattle.std.proofs.KnownBytes.{Appends-nil}
use Rattle.command_text.specs.Putting.{Buffered, IsPutOut}
use Rattle.command_text.proofs.SentLaws.{Sent-front}
use Rattle.decoder_model.specs.Received.{Reception}
use Rattle.level_text.specs.Following.{FinishesFollowing, Following, HasFollowed, is_wanting}
use Rattle.level_text.proofs.AnchorLaws.{not_both}
use Rattle.level_text.proofs.FollowLaws.{told_of_front}
use Rattle.packet_source.specs.declared.stream_end.StreamEnd.TheVariants as stream
use Rattle.packet_source.specs.Packets.{IsWithin}
use Rattle.packet_source.proofs.GaveLaws.{bytes_of}
use Rattle.packet_walk.specs.Closing.{FinishesTold, HasEnded, is_whole_end}
use Rattle.packet_walk.specs.Taken.{AreTaken}
use Rattle.packet_walk.specs.ToldEnds.{IsFront}
use Rattle.packet_walk.specs.Walking.{IsEnd, IsToldFrom}
use Rattle.packet_walk.specs.declared.walk.WalkEnd.{WalkEnd}
use Rattle.packet_walk.specs.declared.walk.WalkEnd.TheVariants as end
use Rattle.sub_base.specs.Endpoints.{AppendsPrefix, Received, Supplied, WroteNothing}
use Rattle.stream_report.proofs.FrontLaws.{front_taken, front_within}
use Rattle.stream_report.proofs.PidsLaws.{nothing_put}
use Rattle.stream_report.specs.LevelsOutcome.{tells_of}
use Rattle.stream_report.specs.declared.levels_words.Arrival.TheVariants as arrival
use Rattle.stream_report.specs.Private.ClockEnds.{FinishesByClock, told_by_clock}

-- a prefix of a text that was put out was written
put_front : (start now : Received) (buffer : Buffered) (text : List ℕ) → IsPutOut start now buffer text
    → AppendsPrefix start.written now.written text
put_front start now buffer text put = by_failed buffer.failed refl
  where
    by_failed : (failed : Bool) → buffer.failed ≡ failed → AppendsPrefix start.written now.written text
    by_failed true is = (put.front is).0
    by_failed false is =
        Sent-front start.written now.written now.written buffer.waits text [] text (put.sent is)
        (0, omega arith, Appends-nil now.written) (append-nil text)

-- a walk that ended so has not ended with the output
abbrev pub IsWrittenEnd : WalkEnd → Type 0
IsWrittenEnd (end.Stream ended) = Unit {0}
IsWrittenEnd (end.Refused refused) = Unit {0}
IsWrittenEnd end.Unwritten = ⊥

module _ (followed : Following) where
  abbrev own_pid : ℕ
  own_pid = followed.levels.meter.asked.pid

  -- what was told at the end of a walk
  told_at : (before now : Supplied) (start out : Received) (buffer : Buffered) (ended : WalkEnd)
      → IsEnd (HasFollowed followed) own_pid before now start out buffer ended
      → (packets : List (List ℕ)) × (rest : List ℕ)
      × IsToldFrom (HasFollowed followed) own_pid before now start out buffer packets rest
  told_at before now start out buffer (end.Stream (stream.Whole cut)) is = (is.0, is.1, is.2)
  told_at before now start out buffer (end.Stream stream.Unread) is = (is.0, is.1, is.2)
  told_at before now start out buffer (end.Stream stream.TooLong) is = (is.0, is.1, is.2)
  told_at before now start out buffer (end.Refused refused) is = (is.0, is.1 ++ is.2, is.3)
  told_at before now start out buffer end.Unwritten is = (is.0, is.1, is.2)

  -- the text of the packets whose ticks are known
  front_told : (before now : Supplied) (start out : Received) (buffer : Buffered) (packets : List (List ℕ))
      (rest : List ℕ) → followed.levels.meter.is_wanting ≡ false
      → IsToldFrom (HasFollowed followed) own_pid before now start out buffer packets rest
      → IsFront (told_by_clock followed) own_pid before now start out
  front_told before now start out buffer packets rest found told =
      let front = told_of_front followed packets told.text found told.told in
      record {
        packets = front.front;
        rest = bytes_of front.others ++ rest;
        taken =
            front_taken own_pid before now front.front front.others rest
            (subst (λ (all : List (List ℕ)). AreTaken own_pid before now all rest) front.all told.taken);
        ended = false;
        at_end = λ ended. absurd (not_both false ended refl);
        text = told.text;
        told = front.told;
        written = put_front start out buffer told.text told.put_out;
      }

  -- where memory is wanting
  pub finished_wanting : (out : Received) (buffer : Buffered) (ended : WalkEnd) → is_wanting followed ≡ true
      → FinishesByClock followed out out buffer buffer ended true
  finished_wanting out buffer ended wanting = record {
    told = λ found. absurd (not_both true refl found);
    stopped = λ _ before now start is.
        let told = told_at before now start out buffer ended is in
        by_levels before now start told.0 told.1 told.2 followed.levels.meter.is_wanting refl;
  }
    where
      by_levels : (before now : Supplied) (start : Received) (packets : List (List ℕ)) (rest : List ℕ)
          → IsToldFrom (HasFollowed followed) own_pid before now start out buffer packets rest
          → (levels : Bool) → followed.levels.meter.is_wanting ≡ levels
          → WroteNothing start out ⊎ IsFront (told_by_clock followed) own_pid before now start out
      by_levels before now start packets rest told true is =
          inl (nothing_put start out buffer told.text (told.told.clocked.timed.nothing is) told.put_out)
      by_levels before now start packets rest told false is =
          inr (front_told before now start out buffer packets rest is told)

  -- where the output could not be written
  pub finished_unwritten : (out : Received) (buffer : Buffered) → followed.levels.meter.is_wanting ≡ false
      → FinishesByClock followed out out buffer buffer end.Unwritten false
  finished_unwritten out buffer found = record {
    told = λ _ pid before now start is.
        let front = told_of_front followed is.0 is.2.text found is.2.told in
        let taken : AreTaken pid before now (front.front ++ front.others) is.1 =
        subst (λ (all : List (List ℕ)). AreTaken pid before now all is.1) front.all is.2.taken in (
          front.front,
          bytes_of front.others ++ is.1,
          record {
            taken = front_taken pid before now front.front front.others is.1 taken;
            text = is.2.text;
            told = front.told;
            put_out = is.2.put_out;
          },
          front_within pid before now front.front front.others is.1 taken
              (subst (λ (all : List (List ℕ)). IsWithin all is.1) front.all is.3),
          is.4,
        );
    stopped = λ wanting. absurd (not_both false wanting refl);
  }

  -- more was put out for the packets of a walk
  told_more : (ended wanting : Bool) (out next : Received) (buffer new : Buffered) → wanting ≡ false
      → FinishesFollowing ended out next followed wanting buffer new
      → (pid : ℕ) (before now : Supplied) (start : Received) (packets : List (List ℕ)) (rest : List ℕ)
      → IsToldFrom (HasFollowed followed) pid before now start out buffer packets rest
      → IsToldFrom (told_by_clock followed ended) pid before now start next new packets rest
  told_more ended wanting out next buffer new found finishes pid before now start packets rest told =
      let more = finishes.goes packets told.text told.told in
      record {
        taken = told.taken;
        text = told.text ++ more.0;
        told = more.2 found;
        put_out = more.3.extends start told.text told.put_out;
      }

  all_told : (out next : Received) (buffer new : Buffered) (ended : WalkEnd) (wanting : Bool) → IsWrittenEnd ended
      → FinishesFollowing (is_whole_end ended) out next followed wanting buffer new → wanting ≡ false
      → FinishesTold (HasFollowed followed) (told_by_clock followed) out next buffer new ended
  all_told out next buffer new (end.Stream (stream.Whole cut)) wanting written goes found pid before now start is = (
    is.0,
    is.1,
    told_more true wanting out next buffer new found goes pid before now start is.0 is.1 is.2,
    is.3,
    is.4,
    is.5,
    is.6,
  )
  all_told out next buffer new (end.Stream stream.Unread) wanting written goes found pid before now start is = (
    is.0,
    is.1,
    told_more false wanting out next buffer new found goes pid before now start is.0 is.1 is.2,
    is.3,
    is.4,
    is.5,
  )
  all_told out next buffer new (end.Stream stream.TooLong) wanting written goes found pid before now start is =
      (is.0, is.1, told_more false wanting out next buffer new found goes pid before now start is.0 is.1 is.2, is.3)
  all_told out next buffer new (end.Refused refused) wanting written goes found pid before now start is = (
    is.0,
    is.1,
    is.2,
    told_more false wanting out next buffer new found goes pid before now start is.0 (is.1 ++ is.2) is.3,
    is.4,
    is.5,
    is.6,
    is.7,
  )
  all_told out next buffer new end.Unwritten wanting written goes found pid before now start is = absurd written

  -- where the output could be written
  pub finished_by : (out next : Received) (buffer new : Buffered) (ended : WalkEnd) (wanting : Bool)
      → IsWrittenEnd ended → FinishesFollowing (is_whole_end ended) out next followed wanting buffer new
      → FinishesByClock followed out next buffer new ended wanting
  finished_by out next buffer new ended wanting written goes = record {
    told = all_told out next buffer new ended wanting written goes;
    stopped = λ wants before now start is.
        let told = told_at before now start out buffer ended is in
        let more = goes.goes told.0 told.2.text told.2.told in
        inl (nothing_put start next new (told.2.text ++ more.0) (more.1 wants)
        (more.3.extends start told.2.text told.2.put_out));
  }

-- what the words ask for
module _ (followed : Following) (asked : Reception) (same : followed.levels.meter.asked ≡ asked) where
  pub stopped_as_asked : (out next : Received) (buffer new : Buffered) (ended : WalkEnd) (before now : Supplied)
      (start : Received) → FinishesByClock followed out next buffer new ended true
      → IsEnd (HasFollowed followed) asked.pid before now start out buffer ended
      → WroteNothing start next ⊎ IsFront (tells_of arrival.Clock asked) asked.pid before now start next
  stopped_as_asked out next buffer new ended before now start finishes =
      subst (λ (made : Reception). IsEnd (HasFollowed followed) made.pid before now start out buffer ended
      → WroteNothing start next ⊎ IsFront (tells_of arrival.Clock made) made.pid before now start next) same
      (finishes.stopped refl before now start)

  pub told_as_asked : (out next : Received) (buffer new : Buffered) (ended : WalkEnd) (before now : Supplied)
      (start : Received) → FinishesByClock followed out next buffer new ended false
      → IsEnd (HasFollowed followed) asked.pid before now start out buffer ended
      → HasEnded (tells_of arrival.Clock asked) asked.pid before now start next new ended
  told_as_asked out next buffer new ended before now start finishes =
      subst (λ (made : Reception). IsEnd (HasFollowed followed) made.pid before now start out buffer ended
      → HasEnded (tells_of arrival.Clock made) made.pid before now start next new ended) same
      (finishes.told refl followed.levels.meter.asked.pid before now start)

-- memory is wanting neither for the receiver nor for a table
pub or_false : (one other : Bool) → (one || other) ≡ false → (one ≡ false) × (other ≡ false)
or_false false false is = (refl, refl)
or_false false true is = absurd (not_both true refl is)
or_false true other is = absurd (not_both true refl is)
