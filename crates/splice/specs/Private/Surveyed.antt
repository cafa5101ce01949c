-- What going through the packets of a stream came to.
use Rattle.decoder_model.specs.Received.{Reception}
use Rattle.std.specs.Prelude.{◌≡◌, ℕ, false, List, [], ◌++◌, length}
use Rattle.display_sets.specs.Gathered.{ready_sets}
use Rattle.sent_sets.specs.RawSets.{RawSet}
use Rattle.set_receiver.specs.Receiving.{SetReceiving, reception}
use Rattle.splice.specs.StreamTests.{CanBeTaken, IsFirstRefused}
use Rattle.splice.specs.Private.JoinedSets.{IsJoinedOf}
use Rattle.splice.specs.Private.Surveys.{HasFound, IsSurveyed}
use Rattle.splice.specs.declared.found.Found.{Found}
use Rattle.splice.specs.declared.joined.Joined.{Joined}
use Rattle.splice.specs.declared.part.Part.{Part}
use Rattle.splice.specs.declared.stream_reader.ReadStop.{ReadStop}
use Rattle.splice.specs.declared.stream_reader.ReadStop.TheVariants as stop
use Rattle.splice.specs.declared.found.Survey.{Survey}
use Rattle.splice.specs.declared.found.Survey.TheVariants.{Refused, Whole}

-- a receiver that was fed nothing was fed these packets, each of which can be taken; no set waits in it, and this was
-- found of them, whatever sets were kept before
pub record HasGone (made : Reception) (part : Part) (packets : List (List ℕ)) (receiving : SetReceiving)
    (found : Found) (start end : Joined) : Type 0 where
  pub own : reception receiving ≡ made
  pub none : ready_sets receiving.collecting.sets ≡ []
  pub taken : CanBeTaken made.pid packets
  pub goes : (earlier : List RawSet) → IsJoinedOf earlier start
      → HasFound made part earlier false packets receiving found end

-- what going through packets came to, before their stream ends: one is the first that cannot be taken, or all are taken
abbrev pub IsGone : Reception → Part → List (List ℕ) → SetReceiving → Joined → Joined → Survey → Type 0
IsGone made part packets receiving start end (Refused packet fault) = IsFirstRefused made.pid packets packet fault
IsGone made part packets receiving start end (Whole found) = HasGone made part packets receiving found start end

-- whichever packets were gone through before, so many: with these behind them, going through them came to this
pub record GoesThrough (part : Part) (first : ℕ) (more : List (List ℕ)) (old new : SetReceiving) (was is : Survey)
    (start end : Joined) : Type 0 where
  pub goes : (made : Reception) (origin : Joined) (packets : List (List ℕ)) → length packets ≡ first
      → IsGone made part packets old origin start was → IsGone made part (packets ++ more) new origin end is

-- what going through packets came to where it stopped at one that cannot be taken
abbrev pub IsStopped : ReadStop → Survey → Type 0
IsStopped stop.Memory survey = ⊥
IsStopped (stop.Refused packet fault) survey = survey ≡ Refused packet fault

-- where no packet was refused so far, no set waits in the receiver
abbrev pub IsReady : Survey → SetReceiving → Type 0
IsReady (Refused packet fault) receiving = Unit {0}
IsReady (Whole found) receiving = ready_sets receiving.collecting.sets ≡ []

-- the stream ended with the packets that the receiver was fed, and this was found of all of it
pub record HasEnded (part : Part) (receiving : SetReceiving) (was is : Found) (start end : Joined) : Type 0 where
  pub goes : (made : Reception) (earlier : List RawSet) (packets : List (List ℕ))
      → HasFound made part earlier false packets receiving was start
      → IsSurveyed made part earlier packets is end is.finding

-- what going through the packets of a stream came to: a packet is the first that cannot be taken; or all are taken, and
-- of whatever sets were kept before, this was found
abbrev pub IsSurveyOf : Reception → Part → List (List ℕ) → Joined → Joined → Survey → Type 0
IsSurveyOf made part packets old new (Refused packet fault) = IsFirstRefused made.pid packets packet fault
IsSurveyOf made part packets old new (Whole found) =
    CanBeTaken made.pid packets
    × ((earlier : List RawSet) → IsJoinedOf earlier old
    → IsSurveyed made part earlier packets found new found.finding)

-- the stream ended with the packets that were gone through, whichever they are: that came to this
pub record EndsGone (part : Part) (receiving : SetReceiving) (was is : Survey) (start end : Joined) : Type 0 where
  pub goes : (made : Reception) (origin : Joined) (packets : List (List ℕ))
      → IsGone made part packets receiving origin start was → IsSurveyOf made part packets origin end is
