-- What a set of a generated script's plan carries.
use Rattle.std.proofs.Common.{◌≡◌, ◌∙◌, ◌⊎◌, inl, inr, ℕ, ◌==◌, ◌<◌, ◌≤◌, Bool, true, false, not, cond, List, [], ◌∷◌, filter, length, get_or, All, find, Some, sym, ap, subst, refl, arith}
use Rattle.std.specs.Prelude.{IsSome, slice_get}
use Rattle.std.specs.List.{flat_map, list_any, range_with_len, sum_by, Contains}
use Rattle.std.proofs.lemmas.Bool.{false≢true}
use Rattle.std.proofs.lemmas.Bool.Decides.{nat_tests}
use Rattle.std.proofs.lemmas.List.{length-drop, length-map}
use Rattle.std.proofs.lemmas.List.Concat.{length-flat_map}
use Rattle.std.proofs.lemmas.List.Elements.{All-weaker}
use Rattle.std.proofs.lemmas.List.Sorted.{length_permutation, sum_by-IsPermutation}
use Rattle.std.proofs.lemmas.List.Sums.{sum_by-append, sum_by-cons}
use Rattle.std.proofs.lemmas.Option.{get_or_from_slice_get, slice_get-get_or, slice_get_within}
use Rattle.sub_base.specs.declared.profile.Profile.{Profile}
use Rattle.cue_records.specs.declared.row_values.ColourRow.{ColourRow}
use Rattle.cue_list.specs.declared.epoch.Epoch.{Epoch}
use Rattle.cue_records.specs.declared.region.Region.{Region}
use Rattle.cue_list.specs.declared.script.Script.{Script}
use Rattle.generated_script_laws.specs.Listed.{ListsFew}
use Rattle.generated_script.specs.Generated.{generated_region, IsGenerated, IsGeneratedEpoch}
use Rattle.generated_script.proofs.TickLaws.{epoch_at}
use Rattle.page_epoch.specs.declared.planned_set.PlannedSet.{PlannedSet}
use Rattle.page_epoch.specs.declared.planned_set.SentRegion.{SentRegion}
use Rattle.page_epoch.specs.Live.{live_places}
use Rattle.page_epoch.specs.Plan.{IsCarried, IsNextSet, IsPlan}
use Rattle.page_epoch.specs.Sendable.{IsOfItsEpoch, IsSendableRegion}
use Rattle.page_epoch.specs.SentCluts.{clut_count, sent_clut, sent_cluts}
use Rattle.page_epoch.specs.SentRegions.{is_redrawn, is_extended, region_version, live_before, filled, extended, region_from, sent_region, AreShown, listed_cues}
use Rattle.page_epoch.proofs.ListLaws.{filter_none, length_kept, one_each}
use Rattle.page_epoch.proofs.SendLaws.{sendable_all}
use Rattle.page_epoch.proofs.SoundLaws.{plain}
use Rattle.generated_script_laws.proofs.LiveCues.{most, few_live}
use Rattle.sub_base.specs.Lists.{has_some}

-- ---- a region

-- a region is sent at most once, with no more cues than are live
record IsFew (n : ℕ) (sent : List SentRegion) : Type 0 where
  once : length sent ≤ 1
  few : sum_by (λ (one : SentRegion). length one.cues) sent ≤ n

from_few : (id version n : ℕ) (whole : Bool) (old new : List ℕ) → length new ≤ n
    → IsFew n (region_from id version whole old new)
from_few id version n whole old new h = by whole (is_redrawn old new) (is_extended old new)
  where
    by : (w r x : Bool)
        → IsFew n
        (cond w (filled id version new ∷ [])
        (cond (not r) [] (cond x (extended id version old new ∷ []) (filled id version new ∷ []))))
    by true r x = record { once = omega arith; few = omega arith }
    by false false x = record { once = omega arith; few = omega arith }
    by false true true = record { once = omega arith; few = let less = length-drop (length old) new in omega arith }
    by false true false = record { once = omega arith; few = omega arith }

sent_few : (number e : ℕ) (epoch : Epoch) → IsGeneratedEpoch number e epoch
    → (whole : Bool) (seen : List ℕ) (id : ℕ) → IsFew (most id) (sent_region epoch.cues whole seen id)
sent_few number e epoch is whole [] id = record { once = omega arith; few = grind (arith, nat_tests) }
sent_few number e epoch is whole (tick ∷ earlier) id =
    from_few id (region_version epoch.cues id (tick ∷ earlier)) (most id) whole (live_before epoch.cues id earlier)
    (live_places epoch.cues id tick) (few_live number e epoch is id tick)

-- ---- all regions

sums : {X Y : Type 0} (f : X → List Y) (size : Y → ℕ) (bound : X → ℕ)
    → ((x : X) → sum_by size (f x) ≤ bound x) → (xs : List X)
    → sum_by size (flat_map f xs) ≤ sum_by bound xs
sums f size bound each [] = omega arith
sums f size bound each (x ∷ xs) =
    let parts = sum_by-append size (f x) (flat_map f xs) in
    let first = each x in
    let rest = sums f size bound each xs in
    let whole = sum_by-cons bound x xs in
    omega arith

two_regions : sum_by (λ (region : Region). most region.id) (generated_region 0 ∷ generated_region 1 ∷ []) ≡ 3
two_regions = refl

id_of : (id : ℕ)
    → IsSome (find (λ (region : Region). region.id == id) (generated_region 0 ∷ generated_region 1 ∷ []))
    → (id ≡ 0) ⊎ (id ≡ 1)
id_of id h = by (0 == id) (1 == id) refl refl
  where
    by : (first second : Bool) → (0 == id) ≡ first → (1 == id) ≡ second → (id ≡ 0) ⊎ (id ≡ 1)
    by true second a b = inl (grind (arith, nat_tests))
    by false true a b = inr (grind (arith, nat_tests))
    by false false a b = absurd (false≢true (rw (a, b) at h))

-- a script without colours sends no CLUTs
pub no_cluts : (whole : Bool) (seen : List ℕ) → sent_cluts [] whole seen ≡ []
no_cluts whole seen =
    ap (flat_map (sent_clut [] whole seen))
    (filter_none (λ (clut : ℕ). list_any (λ (row : ColourRow). row.clut == clut) []) (range_with_len 0 clut_count)
    (λ i d h. refl))

pub few_shown : (number e : ℕ) (epoch : Epoch) (tick : ℕ) (shown : List ℕ) → IsGeneratedEpoch number e epoch
    → AreShown epoch.cues epoch.regions tick shown → length shown ≤ 2
few_shown number e epoch tick shown is are =
    let same = ap length are.is in
    let mapped =
    length-map (filter (λ (region : Region). has_some (live_places epoch.cues region.id tick)) are.by_y)
    (λ (region : Region). region.id) in
    let kept = length_kept (λ (region : Region). has_some (live_places epoch.cues region.id tick)) are.by_y in
    let moved = length_permutation epoch.regions are.by_y are.ordered.same in
    let two = ap length is.regions in
    omega arith

carries_few : (number e : ℕ) (epoch : Epoch) (whole : Bool) (seen : List ℕ) (set : PlannedSet)
    → IsGeneratedEpoch number e epoch → IsCarried epoch whole seen set
    → All (IsSendableRegion epoch) set.regions → All (λ place. place < length epoch.cues) set.cues
    → ListsFew epoch set
carries_few number e epoch whole seen set is carried sendable there =
    let regions = carried.regions in
    let f = λ (region : Region). sent_region epoch.cues whole seen region.id in
    let moved = length_permutation epoch.regions regions.by_id regions.ordered.same in
    let two = ap length is.regions in
    let once = one_each f (λ region. (sent_few number e epoch is whole seen region.id).once) regions.by_id in
    let sent = ap length regions.is in
    let listed =
    sums f (λ (one : SentRegion). length one.cues) (λ (region : Region). most region.id)
    (λ region. (sent_few number e epoch is whole seen region.id).few) regions.by_id in
    let all = ap (λ (xs : List SentRegion). sum_by (λ (one : SentRegion). length one.cues) xs) regions.is in
    let total =
    sum_by-IsPermutation (λ (region : Region). most region.id) epoch.regions regions.by_id regions.ordered.same in
    let three =
    ap (λ (xs : List Region). sum_by (λ (region : Region). most region.id) xs) is.regions ∙ two_regions in
    let objects = length_permutation (listed_cues set.regions) set.cues carried.cues in
    let joined = length-flat_map (λ (one : SentRegion). one.cues) set.regions in
    record {
      shown = few_shown number e epoch set.pts set.shown is carried.shown;
      regions = omega arith;
      ids = All-weaker (IsSendableRegion epoch) (λ (one : SentRegion). (one.id ≡ 0) ⊎ (one.id ≡ 1))
          (λ one fits. id_of one.id
          (subst (λ (rs : List Region). IsSome (find (λ (region : Region). region.id == one.id) rs)) is.regions
          fits.region)) set.regions sendable;
      listings = omega arith;
      cluts =
          carried.cluts ∙ ap (λ (rows : List ColourRow). sent_cluts rows whole seen) is.colours
          ∙ no_cluts whole seen;
      cues = omega arith;
      there = there;
    }

-- ---- all sets

-- the epoch at a place
pub epoch_there : (number : ℕ) (script : Script) (place : ℕ) (epoch : Epoch) → IsGenerated number script
    → slice_get script.epochs place ≡ Some epoch → IsGeneratedEpoch number place epoch
epoch_there number script place epoch is found =
    subst (IsGeneratedEpoch number place) (get_or_from_slice_get script.epochs place epoch epoch found)
    (epoch_at number script.epochs place epoch is.epochs (slice_get_within script.epochs place epoch found))

some_same : {X : Type 0} (x y : X) → Some x ≡ Some y → x ≡ y
some_same x y h = cc

set_few : (number : ℕ) (script : Script) (set : PlannedSet) (past : List PlannedSet) (epoch : Epoch)
    → IsGenerated number script → IsNextSet script.epochs script.refresh past set → IsOfItsEpoch script set
    → slice_get script.epochs set.epoch ≡ Some epoch → ListsFew epoch set
set_few number script set past epoch is next sendable found =
    let same = some_same next.epoch epoch (sym next.place.found ∙ found) in
    let also = some_same sendable.epoch epoch (sym sendable.found ∙ found) in
    subst (λ (x : Epoch). ListsFew x set) same
    (carries_few number set.epoch next.epoch _ _ set
    (epoch_there number script set.epoch next.epoch is next.place.found) next.carried
    (subst (λ (x : Epoch). All (IsSendableRegion x) set.regions) (also ∙ sym same) sendable.carried.regions)
    (subst (λ (x : Epoch). All (λ place. place < length x.cues) set.cues) (also ∙ sym same) sendable.carried.cues))

pub lists_few : (number : ℕ) (script : Script) (profile : Profile) (sets : List PlannedSet) (set : PlannedSet)
    (epoch : Epoch) → IsGenerated number script → IsPlan script profile sets → Contains sets set
    → slice_get script.epochs set.epoch ≡ Some epoch → ListsFew epoch set
lists_few number script profile sets set epoch is plan among found =
    let sendable =
    sendable_all script profile sets
    (plain script.origin script.width script.height script.refresh script.epochs script.pictures script.sound)
    plan.planned in
    let k = among.0 in
    let here : get_or sets k set ≡ set = among.2 in
    let at : slice_get sets k ≡ Some set =
    slice_get-get_or sets k set among.1 ∙ ap (λ (x : PlannedSet). Some x) here in
    set_few number script set _ epoch is (plan.planned.first.each k set at)
    (subst (IsOfItsEpoch script) here (sendable k set among.1)) found
