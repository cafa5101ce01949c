-- The pages of sets that follow each other, and their versions.
use Rattle.std.proofs.Common.{◌≡◌, ◌≢◌, ◌∙◌, ◌⊎◌, inl, inr, ℕ, zero, suc, ◌+◌, ◌%◌, ◌<◌, ◌≤◌, Bool, true, false, cond, List, [], ◌∷◌, ◌++◌, map, filter, reverse, take, length, get_or, Some, refl, sym, ap, subst, arith}
use Rattle.std.specs.Prelude.{All, slice_get}
use Rattle.std.specs.List.{AllPairs, Contains}
use Rattle.std.specs.List.Sorted.{IsNonDecreasingBy}
use Rattle.std.proofs.Props.{props}
use Rattle.std.proofs.Math.Logic.{∥∥₁_elim}
use Rattle.std.proofs.lemmas.Bool.{false≢true}
use Rattle.std.proofs.lemmas.List.{length-map, take_more}
use Rattle.std.proofs.lemmas.List.Elements.{All-contains_itself}
use Rattle.std.proofs.lemmas.List.Sorted.{Contains-permutation, IsPermutation-sym}
use Rattle.std.proofs.lemmas.Option.{get_or_from_slice_get, slice_get_within}
use Rattle.sub_base.specs.Lists.{has_some}
use Rattle.sub_base.specs.Picture.{Picture}
use Rattle.sub_base.specs.declared.profile.Profile.{Profile}
use Rattle.cue_list.specs.Authored.{live_cues}
use Rattle.cue_list.specs.Sound.{IsSoundScript, ticks_of}
use Rattle.cue_list.specs.declared.epoch.Epoch.{Epoch}
use Rattle.cue_records.specs.declared.region.Region.{Region}
use Rattle.cue_list.specs.declared.script.Script.{Script}
use Rattle.page_epoch.proofs.AnswerLaws.{one_place, some_same}
use Rattle.page_epoch.proofs.InstantLaws.{is_named-yes}
use Rattle.page_epoch.proofs.ListLaws.{filter_agree}
use Rattle.page_epoch.proofs.PageVersions.{version_on}
use Rattle.page_epoch.proofs.PlanLaws.{reverse_more}
use Rattle.page_epoch.specs.Instants.{is_named, named_ticks}
use Rattle.page_epoch.specs.Live.{cue_at, live_places}
use Rattle.page_epoch.specs.Plan.{IsNextSet, IsPlan}
use Rattle.page_epoch.specs.SentRegions.{AreShown}
use Rattle.page_epoch.specs.declared.planned_set.PlannedSet.{PlannedSet}
use Rattle.set_coder.specs.SetSegments.{page_entry_of}
use Rattle.shown_plan.specs.NeighbourPages.{AreNeighbourSets, HaveSamePage, IsPageAfter}
use Rattle.shown_plan.proofs.Segments.Lists.{all_at, piece_there}
use Rattle.shown_plan.proofs.Segments.OwnIds.{pairs_from_single, single_from_pairs, single_permuted}
use Rattle.shown_plan.proofs.Pictures.Painted.{live_are}
use Rattle.shown_plan.proofs.Segments.PlannedSets.{has_times, there_at, times_of}
use Rattle.shown_plan.proofs.Pictures.StillPictures.{AreStill, epoch_still, live_still}

-- ---- lists in order of a number that each item has for itself

abbrev AreRising : {X : Type 0} → (X → ℕ) → List X → Type 0
AreRising number xs = AllPairs (λ first second. number first < number second) xs

less_by : (a b : ℕ) → a ≤ b → (a < b) ⊎ (b ≤ a) → (a ≡ b → ⊥) → a < b
less_by a b low (inl h) differ = h
less_by a b low (inr h) differ = absurd (differ (omega arith))

rising : {X : Type 0} (number : X → ℕ) (xs : List X) → IsNonDecreasingBy number xs
    → AllPairs (λ first second. number first ≢ number second) xs → AreRising number xs
rising number xs rise apart i j d before within =
    less_by (number (get_or xs i d)) (number (get_or xs j d)) (rise i j d (omega arith) within) (grind arith)
    (apart i j d before within)

rising_tail : {X : Type 0} (number : X → ℕ) (x : X) (xs : List X) → AreRising number (x ∷ xs)
    → AreRising number xs
rising_tail number x xs rise i j d before within = rise (suc i) (suc j) d (omega arith) (omega arith)

behind_first : {X : Type 0} (number : X → ℕ) (x : X) (xs : List X) (z : X) → AreRising number (x ∷ xs)
    → Contains xs z → number x < number z
behind_first number x xs z rise (k, within, is) =
    subst (λ y. number x < number y) is (rise 0 (suc k) z (omega arith) (omega arith))

first_or : {X : Type 0} (x : X) (xs : List X) (z : X) → Contains (x ∷ xs) z → (x ≡ z) ⊎ Contains xs z
first_or x xs z (zero, within, is) = inl is
first_or x xs z (suc k, within, is) = inr (k, omega arith, is)

one_later : {X : Type 0} (x : X) (xs : List X) (z : X) → Contains xs z → Contains (x ∷ xs) z
one_later x xs z (k, within, is) = (suc k, omega arith, is)

same_first : {X : Type 0} (number : X → ℕ) (x y : X) (xs ys : List X) → AreRising number (x ∷ xs)
    → AreRising number (y ∷ ys) → (x ≡ y) ⊎ Contains xs y → (y ≡ x) ⊎ Contains ys x → x ≡ y
same_first number x y xs ys one other (inl same) back = same
same_first number x y xs ys one other (inr there) (inl same) = sym same
same_first number x y xs ys one other (inr there) (inr back) =
    absurd (omega (arith, behind_first number x xs y one there, behind_first number y ys x other back))

in_tail : {X : Type 0} (number : X → ℕ) (x y : X) (xs ys : List X) (z : X) → AreRising number (x ∷ xs)
    → x ≡ y → Contains xs z → (y ≡ z) ⊎ Contains ys z → Contains ys z
in_tail number x y xs ys z rise same own (inr there) = there
in_tail number x y xs ys z rise same own (inl first) =
    absurd (let less = behind_first number x xs z rise own in let e = ap number (same ∙ first) in omega arith)

-- lists of the same items in that order are the same
same_order : {X : Type 0} (number : X → ℕ) (xs ys : List X) → AreRising number xs → AreRising number ys
    → ((z : X) → Contains xs z → Contains ys z) → ((z : X) → Contains ys z → Contains xs z) → xs ≡ ys
same_order number [] [] one other there back = refl
same_order number [] (y ∷ ys) one other there back =
    absurd (let (k, within, is) = back y (0, omega arith, refl) in omega arith)
same_order number (x ∷ xs) [] one other there back =
    absurd (let (k, within, is) = there x (0, omega arith, refl) in omega arith)
same_order number (x ∷ xs) (y ∷ ys) one other there back =
    let head =
    same_first number x y xs ys one other (first_or x xs y (back y (0, omega arith, refl)))
    (first_or y ys x (there x (0, omega arith, refl))) in
    let tail = same_order number xs ys (rising_tail number x xs one) (rising_tail number y ys other)
    (λ z own. in_tail number x y xs ys z one head own (first_or y ys z (there z (one_later x xs z own))))
    (λ z own. in_tail number y x ys xs z other (sym head) own (first_or x xs z (back z (one_later y ys z own)))) in
    cc (head, tail)

-- ---- regions from the top of the display

abbrev HaveOwnRows : Epoch → Type 0
HaveOwnRows epoch = AllPairs (λ (first second : Region). first.y ≢ second.y) epoch.regions

other_row : (first second : Region) → 1 ≤ first.height → 1 ≤ second.height
    → (first.y + first.height ≤ second.y) ⊎ (second.y + second.height ≤ first.y) → first.y ≢ second.y
other_row first second high tall (inl above) same = absurd (omega arith)
other_row first second high tall (inr below) same = absurd (omega arith)

own_rows_from : (origin width height refresh : ℕ) (epochs : List Epoch) (pictures : List Picture)
    → IsSoundScript origin width height refresh epochs pictures → All HaveOwnRows epochs
own_rows_from origin width height refresh epochs pictures sound k d there i j e before within =
    let regions = (sound.each k d there).regions in
    let short : i < length (get_or epochs k d).regions = omega arith in
    other_row (get_or (get_or epochs k d).regions i e) (get_or (get_or epochs k d).regions j e)
    (regions.each i e short).high (regions.each j e within).high (regions.apart i j e before within).rows

own_rows_prop : (epochs : List Epoch) → IsProp (All HaveOwnRows epochs)
own_rows_prop epochs = hlevel props

own_rows : (script : Script) → All HaveOwnRows script.epochs
own_rows script =
    ∥∥₁_elim script.sound (own_rows_prop script.epochs)
    (own_rows_from script.origin script.width script.height script.refresh script.epochs script.pictures)

has_mapped : {X Y : Type 0} (f : X → Y) (xs : List X) → has_some (map f xs) ≡ has_some xs
has_mapped f [] = refl
has_mapped f (x ∷ xs) = refl

-- regions that have live cues at one tick have some at the other
shown_still : (epoch : Epoch) (from tick id : ℕ) → from ≤ tick → AreStill from tick (ticks_of epoch)
    → has_some (live_places epoch.cues id from) ≡ has_some (live_places epoch.cues id tick)
shown_still epoch from tick id order still =
    let at : (time : ℕ) → has_some (live_places epoch.cues id time) ≡ has_some (live_cues epoch.cues id time) =
    λ time.
    sym (has_mapped (cue_at epoch.cues) (live_places epoch.cues id time))
    ∙ ap has_some (sym (live_are epoch.cues id time)) in
    at from ∙ ap has_some (sym (live_still epoch id from tick order still)) ∙ sym (at tick)

rising_regions : (epoch : Epoch) (tick : ℕ) (shown : List ℕ) → HaveOwnRows epoch
    → (are : AreShown epoch.cues epoch.regions tick shown) → AreRising (λ (region : Region). region.y) are.by_y
rising_regions epoch tick shown own are =
    rising (λ (region : Region). region.y) are.by_y are.ordered.rise
    (pairs_from_single (λ (region : Region). region.y) are.by_y
    (single_permuted (λ (region : Region). region.y) epoch.regions are.by_y are.ordered.same
    (single_from_pairs (λ (region : Region). region.y) epoch.regions own)))

same_shown : (epoch : Epoch) (from tick : ℕ) (one other : List ℕ) → HaveOwnRows epoch → from ≤ tick
    → AreStill from tick (ticks_of epoch) → AreShown epoch.cues epoch.regions from one
    → AreShown epoch.cues epoch.regions tick other → one ≡ other
same_shown epoch from tick one other own order still first second =
    let both : first.by_y ≡ second.by_y =
    same_order (λ (region : Region). region.y) first.by_y second.by_y (rising_regions epoch from one own first)
    (rising_regions epoch tick other own second)
    (λ z there. Contains-permutation epoch.regions second.by_y z second.ordered.same
    (Contains-permutation first.by_y epoch.regions z (IsPermutation-sym epoch.regions first.by_y first.ordered.same)
    there))
    (λ z there. Contains-permutation epoch.regions first.by_y z first.ordered.same
    (Contains-permutation second.by_y epoch.regions z
    (IsPermutation-sym epoch.regions second.by_y second.ordered.same) there)) in
    let early = λ (region : Region). has_some (live_places epoch.cues region.id from) in
    let late = λ (region : Region). has_some (live_places epoch.cues region.id tick) in
    first.is ∙ ap (λ (regions : List Region). map (λ (region : Region). region.id) (filter early regions)) both
    ∙ ap (map (λ (region : Region). region.id))
    (filter_agree early late second.by_y
    (λ k d within. shown_still epoch from tick (get_or second.by_y k d).id order still))
    ∙ sym second.is

-- ---- two sets

-- what is known of two neighbours
record AreNext (script : Script) (sets : List PlannedSet) (first second : PlannedSet) : Type 0 where
  earlier : List PlannedSet
  first_next : IsNextSet script.epochs script.refresh earlier first
  second_next : IsNextSet script.epochs script.refresh (first ∷ earlier) second

are_next : (script : Script) (profile : Profile) (sets : List PlannedSet) (first second : PlannedSet)
    → IsPlan script profile sets → AreNeighbourSets sets first second → AreNext script sets first second
are_next script profile sets first second plan near =
    let n = near.place in
    let short = slice_get_within sets n first near.has_first in
    let here = get_or_from_slice_get sets n first first near.has_first in
    let past : reverse (take (n + 1) sets) ≡ first ∷ reverse (take n sets) =
    ap reverse (take_more sets n first short ∙ ap (λ (set : PlannedSet). take n sets ++ set ∷ []) here)
    ∙ reverse_more (take n sets) first in
    record {
      earlier = reverse (take n sets);
      first_next = plan.planned.first.each n first near.has_first;
      second_next =
          subst (λ (xs : List PlannedSet). IsNextSet script.epochs script.refresh xs second) past
          (plan.planned.first.each (n + 1) second near.has_second);
    }

version_after : (script : Script) (sets : List PlannedSet) (first second : PlannedSet)
    → AreNext script sets first second
    → second.page_version
    ≡ cond (is_named script.epochs second.pts) ((first.page_version + 1) % 16) first.page_version
version_after script sets first second next =
    let before = map (λ (set : PlannedSet). set.pts) (first ∷ next.earlier) in
    next.second_next.version
    ∙ version_on script.epochs before second.pts (is_named script.epochs second.pts) refl (omega arith)
    ∙ ap (λ (v : ℕ). cond (is_named script.epochs second.pts) ((v + 1) % 16) v) (sym next.first_next.version)

time_at : (sets : List PlannedSet) (k : ℕ) (set : PlannedSet) (d : ℕ) → slice_get sets k ≡ Some set
    → get_or (times_of sets) k d ≡ set.pts
time_at [] k set d is = absurd (cc)
time_at (x ∷ sets) zero set d is = let same : x ≡ set = cc in ap (λ (set : PlannedSet). set.pts) same
time_at (x ∷ sets) (suc k) set d is = time_at sets k set d is

-- a tick that a record names is that of a set, and so not between two neighbours
side_of : (times : List ℕ) (n k from tick time : ℕ) → AllPairs (λ (before later : ℕ). before < later) times
    → get_or times n time ≡ from → get_or times (n + 1) time ≡ tick → n + 1 < length times
    → k < length times → get_or times k time ≡ time → time ≢ tick →
    (k < n) ⊎ ((k ≡ n) ⊎ ((k ≡ n + 1) ⊎ (n + 1 < k))) → (time ≤ from) ⊎ (tick < time)
side_of times n k from tick time rise one other short within is differ (inl early) =
    inl (let less = rise k n time early (omega arith) in omega arith)
side_of times n k from tick time rise one other short within is differ (inr (inl same)) =
    inl (let here = ap (λ (j : ℕ). get_or times j time) same in omega arith)
side_of times n k from tick time rise one other short within is differ (inr (inr (inl same))) =
    absurd (differ (let here = ap (λ (j : ℕ). get_or times j time) same in omega arith))
side_of times n k from tick time rise one other short within is differ (inr (inr (inr late))) =
    inr (let less = rise (n + 1) k time late within in omega arith)

still_named : (script : Script) (profile : Profile) (sets : List PlannedSet) (first second : PlannedSet)
    → IsPlan script profile sets → AreNeighbourSets sets first second
    → is_named script.epochs second.pts ≡ false →
    AreStill first.pts second.pts (named_ticks script.epochs)
still_named script profile sets first second plan near unnamed k d there =
    let times = has_times script profile sets plan.planned in
    let time = get_or (named_ticks script.epochs) k d in
    let own : Contains (named_ticks script.epochs) time = All-contains_itself (named_ticks script.epochs) k d there in
    let at = times.all time (inl own) in
    let short = slice_get_within sets (near.place + 1) second near.has_second in
    let long = length-map sets (λ (set : PlannedSet). set.pts) in
    let differ : time ≢ second.pts =
    λ same. false≢true
    (sym unnamed ∙ ap (is_named script.epochs) (sym same) ∙ is_named-yes script.epochs time own) in
    side_of (times_of sets) near.place at.0 first.pts second.pts time times.rise
    (time_at sets near.place first time near.has_first) (time_at sets (near.place + 1) second time near.has_second)
    (omega arith) at.1 at.2 differ (grind arith)

order_of : (script : Script) (profile : Profile) (sets : List PlannedSet) (first second : PlannedSet)
    → IsPlan script profile sets → AreNeighbourSets sets first second → first.pts ≤ second.pts
order_of script profile sets first second plan near =
    let times = has_times script profile sets plan.planned in
    let short = slice_get_within sets (near.place + 1) second near.has_second in
    let long = length-map sets (λ (set : PlannedSet). set.pts) in
    let less = times.rise near.place (near.place + 1) 0 (omega arith) (omega arith) in
    let one = time_at sets near.place first 0 near.has_first in
    let other = time_at sets (near.place + 1) second 0 near.has_second in
    omega arith

refresh_page : (script : Script) (profile : Profile) (sets : List PlannedSet) (first second : PlannedSet)
    → IsPlan script profile sets → AreNeighbourSets sets first second
    → is_named script.epochs second.pts ≡ false → HaveSamePage script first second
refresh_page script profile sets first second plan near unnamed =
    let next = are_next script profile sets first second plan near in
    let order = order_of script profile sets first second plan near in
    let still = still_named script profile sets first second plan near unnamed in
    let epoch = next.first_next.epoch in
    let found = next.first_next.place.found in
    let there = there_at script.epochs first.epoch epoch found in
    let on = epoch_still script.epochs first.pts second.pts first.epoch epoch order still next.first_next.place in
    let place : second.epoch ≡ first.epoch =
    one_place script.epochs second.pts second.epoch first.epoch next.second_next.epoch epoch next.second_next.place
    on in
    let second_found : slice_get script.epochs second.epoch ≡ Some epoch =
    ap (slice_get script.epochs) place ∙ found in
    let same : next.second_next.epoch ≡ epoch =
    some_same next.second_next.epoch epoch (slice_get script.epochs second.epoch) next.second_next.place.found
    second_found in
    let quiet : AreStill first.pts second.pts (ticks_of epoch) = λ k d within.
    all_at (λ time. (time ≤ first.pts) ⊎ (second.pts < time)) (named_ticks script.epochs)
    (get_or (ticks_of epoch) k d) still
    (piece_there ticks_of script.epochs epoch (get_or (ticks_of epoch) k d) there
    (All-contains_itself (ticks_of epoch) k d within)) in
    let later : AreShown epoch.cues epoch.regions second.pts second.shown =
    subst (λ (e : Epoch). AreShown e.cues e.regions second.pts second.shown) same next.second_next.carried.shown in
    record {
      epoch = epoch;
      of_first = found;
      of_second = second_found;
      entries =
          ap (map (page_entry_of epoch))
          (same_shown epoch first.pts second.pts first.shown second.shown
          (all_at HaveOwnRows script.epochs epoch (own_rows script) there) order quiet next.first_next.carried.shown
          later);
    }

pub page_after : (script : Script) (profile : Profile) (sets : List PlannedSet) (first second : PlannedSet)
    → IsPlan script profile sets → AreNeighbourSets sets first second → IsPageAfter script first second
page_after script profile sets first second plan near =
    let next = are_next script profile sets first second plan near in
    let version = version_after script sets first second next in
    record {
      rises = λ named. version ∙ ap (λ (b : Bool). cond b ((first.page_version + 1) % 16) first.page_version) named;
      stays =
          λ unnamed. version ∙ ap (λ (b : Bool). cond b ((first.page_version + 1) % 16) first.page_version) unnamed;
      same = refresh_page script profile sets first second plan near;
    }

other_version : (v : ℕ) → v < 16 → v ≡ (v + 1) % 16 → ⊥
other_version v small same = absurd (omega arith)

-- where the versions are the same, the second set is a refresh
pub same_page : (script : Script) (profile : Profile) (sets : List PlannedSet) (first second : PlannedSet)
    → IsPlan script profile sets → AreNeighbourSets sets first second
    → first.page_version ≡ second.page_version → HaveSamePage script first second
same_page script profile sets first second plan near same = by (is_named script.epochs second.pts) refl
  where
    by : (b : Bool) → is_named script.epochs second.pts ≡ b → HaveSamePage script first second
    by true named =
        (let next = are_next script profile sets first second plan near in
        let version = next.first_next.version in
        let rises = (page_after script profile sets first second plan near).rises named in
        absurd (other_version first.page_version (omega arith) (same ∙ rises)))
    by false unnamed = refresh_page script profile sets first second plan near unnamed
