-- Why two streams that were gone through are not joined, but for their schedule.
use Rattle.std.specs.Prelude.{ℕ, ◌-◌, nat_le, if◌then◌else◌, Bool, true, false, List, [], Option, Some, None}
use Rattle.std.specs.Option.{option_or}
use Rattle.sent_sets.specs.RawSets.{RawSet}
use Rattle.splice.specs.SplicedSets.{Streams, first_reception, second_reception, spliced_sets}
use Rattle.splice.specs.SplicedStream.{CanBeJoined}
use Rattle.splice.specs.SpliceOutcome.{IsSpliceRefused}
use Rattle.splice.specs.Private.JoinedSets.{IsJoinedOf, IsLastTime}
use Rattle.splice.specs.Private.Surveyed.{IsSurveyOf}
use Rattle.splice.specs.declared.found.Finding.{Finding}
use Rattle.splice.specs.declared.found.Finding.TheVariants.{Good, Unshown, Lost}
use Rattle.splice.specs.declared.found.Survey.{Survey}
use Rattle.splice.specs.declared.found.Survey.TheVariants.{Refused, Whole}
use Rattle.splice.specs.declared.joined.Joined.{Joined}
use Rattle.splice.specs.declared.limits.TheConstants.{TOO_CLOSE, TOO_FAR}
use Rattle.splice.specs.declared.part.Part.TheVariants.{Before, From}
use Rattle.splice.specs.declared.splice_fault.SpliceFault.{SpliceFault}
use Rattle.splice.specs.declared.splice_fault.SpliceFault.TheVariants as fault
use Rattle.splice.specs.declared.splice_words.Splicing.{Splicing}

-- ---- what is tested

-- both streams were gone through, the second behind the first: this came of it, that is the time of the first stream's
-- last set that is sent, and these sets are kept
pub record AreSurveyed (splicing : Splicing) (streams : Streams) (first second : Survey) (last : Option ℕ)
    (joined : Joined) : Type 0 where
  pub start : Joined
  pub between : Joined
  pub nothing : IsJoinedOf [] start
  pub first_is : IsSurveyOf (first_reception splicing) (Before splicing.cut) streams.first start between first
  pub last_is : (sets : List RawSet) → IsJoinedOf sets between → IsLastTime sets last
  pub second_is : IsSurveyOf (second_reception splicing) (From splicing.cut) streams.second between joined second

-- the streams are refused for this fault; or they can be joined, and their sets are kept
abbrev pub IsRefusalOf : Splicing → Streams → Joined → Option SpliceFault → Type 0
IsRefusalOf splicing streams joined None =
    CanBeJoined splicing streams × IsJoinedOf (spliced_sets splicing streams) joined
IsRefusalOf splicing streams joined (Some fault) = IsSpliceRefused splicing streams fault

-- ---- the tests, in their order

-- a loss in either stream goes before a set that is not shown
abbrev pub fault_of_findings : Finding → Finding → Option SpliceFault
fault_of_findings (Lost packet) second = Some (fault.Lost false packet)
fault_of_findings (Unshown set) (Lost packet) = Some (fault.Lost true packet)
fault_of_findings Good (Lost packet) = Some (fault.Lost true packet)
fault_of_findings (Unshown set) (Unshown other) = Some (fault.NotShown false set)
fault_of_findings (Unshown set) Good = Some (fault.NotShown false set)
fault_of_findings Good (Unshown set) = Some (fault.NotShown true set)
fault_of_findings Good Good = None

-- the cut is too close behind the last set, or too far from it
abbrev pub fault_of_distance : ℕ → ℕ → Option SpliceFault
fault_of_distance cut last =
    if nat_le (cut - last) TOO_CLOSE then Some (fault.CutTooClose last)
    else if nat_le TOO_FAR (cut - last) then Some (fault.CutTooFar last)
    else None

-- the cut has its distance from the first stream's last set before it, where there is one; with none nothing is wrong
abbrev pub fault_of_last : ℕ → Option ℕ → Option SpliceFault
fault_of_last cut None = None
fault_of_last cut (Some last) = fault_of_distance cut last

-- the second stream begins with a mode change, and then the cut has its distance
abbrev pub fault_of_seam : ℕ → Bool → Option ℕ → Option SpliceFault
fault_of_seam cut true last = fault_of_last cut last
fault_of_seam cut false last = Some fault.NoModeChange

-- all tests, of which that of the packets goes first
abbrev pub fault_of_surveys : ℕ → Survey → Survey → Option ℕ → Option SpliceFault
fault_of_surveys cut (Refused packet reason) second last = Some (fault.Packet false packet reason)
fault_of_surveys cut (Whole first) (Refused packet reason) last = Some (fault.Packet true packet reason)
fault_of_surveys cut (Whole first) (Whole second) last =
    option_or (fault_of_findings first.finding second.finding) (fault_of_seam cut second.anew last)
