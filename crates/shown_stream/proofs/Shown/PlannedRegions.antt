-- A set of a plan shows at most 64 regions, and sends each at most once.
use Rattle.std.proofs.Common.{◌≡◌, ◌≢◌, ℕ, ◌≤◌, Bool, true, false, cond, eqb, not, List, [], ◌∷◌, Some, refl, subst, ap, arith}
use Rattle.std.specs.Prelude.{AllPairs}
use Rattle.std.specs.Bool.{if◌then◌else◌}
use Rattle.std.specs.List.{flat_map, slice_get, sum_by}
use Rattle.std.proofs.lemmas.List.Sorted.{sum_by-IsPermutation}
use Rattle.std.proofs.lemmas.List.Sums.{sum_by-append, sum_by-cons}
use Rattle.std.proofs.lemmas.Option.{get_or_from_slice_get, slice_get_within}
use Rattle.sub_base.specs.declared.profile.Profile.{Profile}
use Rattle.cue_list.specs.declared.epoch.Cue.{Cue}
use Rattle.cue_records.specs.declared.region.Region.{Region}
use Rattle.cue_list.specs.declared.script.Script.{Script}
use Rattle.page_epoch.specs.Live.{live_places}
use Rattle.page_epoch.specs.Plan.{IsPlan}
use Rattle.page_epoch.specs.Sendable.{IsOfItsEpoch}
use Rattle.page_epoch.specs.SentRegions.{is_redrawn, is_extended, filled, extended, region_version, live_before, sent_region, AreSentRegions}
use Rattle.page_epoch.specs.EpochWalks.{IsNumbered}
use Rattle.page_epoch.specs.declared.planned_set.PlannedSet.{PlannedSet}
use Rattle.page_epoch.specs.declared.planned_set.SentRegion.{SentRegion}
use Rattle.page_epoch.proofs.SendLaws.{sendable_all, one_of}
use Rattle.page_epoch.proofs.SoundLaws.{plain}
use Rattle.shown_stream.proofs.Late.LateRest.{HaveNumbers, IsPlannedWell}

-- ---- regions that are sent

abbrev one_if : Bool → ℕ
one_if same = cond same 1 0

abbrev count_sent : ℕ → List SentRegion → ℕ
count_sent v sent = sum_by (λ (one : SentRegion). one_if (eqb v one.id)) sent

single : (v id : ℕ) (one : SentRegion) → one.id ≡ id → count_sent v (one ∷ []) ≤ one_if (eqb v id)
single v id one same =
    omega (
      arith,
      sum_by-cons (λ (other : SentRegion). one_if (eqb v other.id)) one [],
      ap (λ n. one_if (eqb v n))
          same,
    )

by_tests : (v id version : ℕ) (old new : List ℕ) (whole risen more : Bool)
    → count_sent v
    (if whole then filled id version new ∷ [] else if not risen then [] else if more
    then extended id version old new ∷ [] else filled id version new ∷ []) ≤ one_if (eqb v id)
by_tests v id version old new true risen more = single v id (filled id version new) refl
by_tests v id version old new false false more = omega arith
by_tests v id version old new false true true = single v id (extended id version old new) refl
by_tests v id version old new false true false = single v id (filled id version new) refl

sent_once : (v : ℕ) (cues : List Cue) (whole : Bool) (seen : List ℕ) (id : ℕ)
    → count_sent v (sent_region cues whole seen id) ≤ one_if (eqb v id)
sent_once v cues whole [] id = omega arith
sent_once v cues whole (tick ∷ earlier) id =
    let old = live_before cues id earlier in
    let new = live_places cues id tick in
    by_tests v id (region_version cues id (tick ∷ earlier)) old new whole (is_redrawn old new) (is_extended old new)

all_once : (v : ℕ) (cues : List Cue) (whole : Bool) (seen : List ℕ) (regions : List Region)
    → count_sent v (flat_map (λ (region : Region). sent_region cues whole seen region.id) regions)
    ≤ sum_by (λ (region : Region). one_if (eqb v region.id)) regions
all_once v cues whole seen [] = omega arith
all_once v cues whole seen (region ∷ regions) =
    omega (
      arith,
      sent_once v cues whole seen region.id,
      all_once v cues whole seen regions,
      sum_by-append (λ (one : SentRegion). one_if (eqb v one.id)) (sent_region cues whole seen region.id)
          (flat_map (λ (other : Region). sent_region cues whole seen other.id) regions),
      sum_by-cons (λ (other : Region). one_if (eqb v other.id)) region regions,
    )

have_numbers : (cues : List Cue) (regions : List Region) (whole : Bool) (seen : List ℕ) (sent : List SentRegion)
    → AreSentRegions cues regions whole seen sent
    → AllPairs (λ (first second : Region). first.id ≢ second.id) regions → HaveNumbers sent
have_numbers cues regions whole seen sent are apart = λ v.
    let each = all_once v cues whole seen are.by_id in
    let same =
    sum_by-IsPermutation (λ (region : Region). one_if (eqb v region.id)) regions are.by_id are.ordered.same in
    let few = one_of v regions apart in
    let all : count_sent v sent
    ≡ count_sent v (flat_map (λ (region : Region). sent_region cues whole seen region.id) are.by_id) = ap
    (count_sent v) are.is in
    omega arith

-- ---- a set of a plan

pub planned_well : (script : Script) (profile : Profile) (sets : List PlannedSet) (number : ℕ) (set : PlannedSet)
    → IsPlan script profile sets → slice_get sets number ≡ Some set → IsPlannedWell set
planned_well script profile sets number set plan found =
    let right =
    plain script.origin script.width script.height script.refresh script.epochs script.pictures script.sound in
    let all = sendable_all script profile sets right plan.planned in
    let one : IsOfItsEpoch script set =
    subst (IsOfItsEpoch script) (get_or_from_slice_get sets number set set found)
    (all number set (slice_get_within sets number set found)) in
    let next = plan.planned.first.each number set found in
    let short = slice_get_within script.epochs set.epoch next.epoch next.place.found in
    let there = get_or_from_slice_get script.epochs set.epoch next.epoch next.epoch next.place.found in
    let numbered : IsNumbered next.epoch = subst IsNumbered there (right.numbered set.epoch next.epoch short) in
    record {
      few = one.carried.few_shown;
      numbers = have_numbers next.epoch.cues next.epoch.regions _ _ set.regions
          next.carried.regions numbered.apart;
    }
