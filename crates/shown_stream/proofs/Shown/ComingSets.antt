-- The sets of a plan that come whole, as a receiver reads them.
use Rattle.std.proofs.Common.{◌≡◌, ◌∙◌, ℕ, suc, ◌%◌, ◌==◌, cond, eqb, List, [], ◌∷◌, ◌++◌, map, reverse, get_or, Some, None, refl, sym, ap, subst, append_assoc, arith}
use Rattle.std.specs.Prelude.{All, slice_get}
use Rattle.std.specs.List.{AllZip}
use Rattle.std.proofs.lemmas.Bool.Decides.{nat_tests}
use Rattle.std.proofs.lemmas.List.{reverse-append}
use Rattle.sub_base.specs.declared.profile.Profile.{Profile}
use Rattle.stream_syntax.specs.Segments.{SegmentValue}
use Rattle.stream_syntax.specs.declared.wire.TheConstants.{TIME_ROUND}
use Rattle.cue_list.specs.declared.epoch.Epoch.{Epoch}
use Rattle.cue_list.specs.declared.script.Script.{Script}
use Rattle.page_epoch.specs.Plan.{IsPlan}
use Rattle.page_epoch.specs.Sendable.{HasCue}
use Rattle.page_epoch.specs.declared.planned_set.PlannedSet.{PlannedSet}
use Rattle.page_epoch.specs.declared.planned_set.SentRegion.{SentRegion}
use Rattle.decoder_model.specs.Faults.{contents_in, segment_fault}
use Rattle.decoder_model.specs.Readings.{Content, Reading, read, AreReadings, IsDeliveryRead}
use Rattle.decoder_model.specs.Sets.{Delivery, whole}
use Rattle.shown_plan.proofs.Steps.Fair.{fair}
use Rattle.shown_plan.specs.NamedSets.{AreNamedSegments}
use Rattle.shown_plan.proofs.Segments.Lists.{sum_same}
use Rattle.shown_plan.proofs.Segments.OwnIds.{AreSingle}
use Rattle.shown_plan.proofs.Segments.PlannedSets.{IsInEpoch}
use Rattle.shown_plan.proofs.Segments.ReadSets.{IsReadSet}
use Rattle.shown_plan.proofs.Pictures.Runs.{at_place}
use Rattle.shown_stream.specs.SentPlan.{IsWrittenAs}
use Rattle.shown_stream.proofs.Late.LateRest.{HaveNumbers, IsPlannedWell}
use Rattle.shown_stream.proofs.Shown.ReadSegments.{AreShallow, fair_shallow, set_is_read}
use Rattle.sent_sets.proofs.SetEnds.{delivered}
use Rattle.sent_sets.proofs.Units.{TimedSet, all_segments, size_of_units}

-- a set of a plan that comes whole, with what it is read as
pub record SetComes (script : Script) (set : PlannedSet) (sent : TimedSet) : Type 0 where
  pub epoch : Epoch
  pub found : slice_get script.epochs set.epoch ≡ Some epoch
  pub time : sent.time ≡ set.pts % TIME_ROUND
  pub contents : List Content
  pub readings : List Reading
  pub are : AreReadings (all_segments sent) readings
  pub contents_are : contents_in readings ≡ contents
  pub no_fault : segment_fault readings ≡ None
  pub is : IsReadSet script epoch set contents

-- what the page memory is handed of it
abbrev pub reading_of : {script : Script} {set : PlannedSet} {sent : TimedSet} → SetComes script set sent
    → Delivery Reading
reading_of {sent = sent} comes = whole sent.time (size_of_units sent.units) comes.readings

pub is_read : {script : Script} {set : PlannedSet} {sent : TimedSet} (comes : SetComes script set sent)
    → IsDeliveryRead (delivered sent) (reading_of comes)
is_read comes = (comes.readings, comes.are, refl)

-- a set in a receiver is one of a plan: it has its time, and the bytes of its segments
pub record IsTimedAs (script : Script) (set : PlannedSet) (one : TimedSet) : Type 0 where
  pub time : one.time ≡ set.pts % TIME_ROUND
  pub values : List SegmentValue
  pub planned : AreNamedSegments script set values
  pub written : AllZip IsWrittenAs values (all_segments one)

-- the regions of a set that have different numbers are told apart by them
single_numbers : (sent : List SentRegion) → HaveNumbers sent → AreSingle (λ (one : SentRegion). one.id) sent
single_numbers sent differ id =
    omega (
      arith,
      differ id,
      sum_same (λ (one : SentRegion). cond {A = ℕ} (one.id == id) 1 0)
          (λ (one : SentRegion). cond {A = ℕ} (eqb id one.id) 1 0) sent
          (λ k d within. ap (λ b. cond {A = ℕ} b 1 0) (turned (get_or sent k d).id)),
    )
  where
    turned : (other : ℕ) → (other == id) ≡ eqb id other
    turned other = grind (arith, nat_tests)

-- each set of a plan does
pub set_comes : (script : Script) (profile : Profile) (past : List PlannedSet) (set : PlannedSet) (one : TimedSet)
    → IsInEpoch script profile past set → IsPlannedWell set → IsTimedAs script set one → SetComes script set one
set_comes script profile past set one place well is =
    let carried = is.planned in
    let same : place.epoch ≡ carried.epoch =
    (let both : Some place.epoch ≡ Some carried.epoch = sym place.place.found ∙ carried.found in cc) in
    let was =
    set_is_read carried is.written (single_numbers set.regions well.numbers)
    (subst (AreShallow script.pictures) same (fair_shallow script.pictures place.epoch place.fair.cues))
    (subst (λ (epoch : Epoch). All (HasCue epoch) set.cues) same place.planned.sendable.cues) in
    record {
      epoch = carried.epoch;
      found = carried.found;
      time = is.time;
      contents = was.contents;
      readings = map read was.contents;
      are = was.are;
      contents_are = was.back;
      no_fault = was.no_fault;
      is = was.is;
    }

-- all sets of a plan do
pub turned_more : (past back : List PlannedSet) (set : PlannedSet)
    → reverse (set ∷ past) ++ back ≡ reverse past ++ (set ∷ back)
turned_more past back set =
    ap (λ front. front ++ back) (reverse-append (set ∷ []) past) ∙ append_assoc (reverse past) (set ∷ []) back

come_from : (script : Script) (profile : Profile) (sets past left : List PlannedSet) (sent : List TimedSet)
    → IsPlan script profile sets → sets ≡ reverse past ++ left
    → ((number : ℕ) (set : PlannedSet) → slice_get left number ≡ Some set → IsPlannedWell set)
    → AllZip (IsTimedAs script) left sent → AllZip (SetComes script) left sent
come_from script profile sets past [] [] plan parts well are = tt
come_from script profile sets past [] (one ∷ sent) plan parts well are = absurd are
come_from script profile sets past (set ∷ left) [] plan parts well are = absurd are
come_from script profile sets past (set ∷ left) (one ∷ sent) plan parts well are =
    let whole = parts ∙ sym (turned_more past left set) in (
      set_comes script profile past set one
          (at_place script profile sets past left set (fair script) plan whole) (well 0 set refl) are.0,
      come_from script profile sets (set ∷ past) left sent plan whole
          (λ number other found. well (suc number) other found) are.1,
    )

pub all_come : (script : Script) (profile : Profile) (sets : List PlannedSet) (sent : List TimedSet)
    → IsPlan script profile sets
    → ((number : ℕ) (set : PlannedSet) → slice_get sets number ≡ Some set → IsPlannedWell set)
    → AllZip (IsTimedAs script) sets sent → AllZip (SetComes script) sets sent
all_come script profile sets sent plan well are = come_from script profile sets [] sets sent plan refl well are
