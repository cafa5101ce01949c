-- What is known of the sets of a plan: each of their cues stands once, and their CLUTs stand in rising order of their
-- numbers.
use Rattle.std.proofs.Common.{◌≡◌, ◌≢◌, ◌∙◌, ℕ, zero, suc, ◌+◌, ◌==◌, ◌<◌, ◌≤◌, ◌^◌, Bool, true, false, cond, List, [], ◌∷◌, ◌++◌, map, filter, reverse, take, Some, refl, sym, ap, subst, arith}
use Rattle.std.specs.Prelude.{All, AllPairs, count_by, slice_get}
use Rattle.std.specs.List.{AllByRecursion, flat_map, list_any, range_with_len}
use Rattle.std.proofs.lemmas.Bool.Decides.{nat_tests}
use Rattle.std.proofs.lemmas.List.Elements.{All-head, All-tail, recursion_from_All}
use Rattle.std.proofs.lemmas.Option.{get_or_from_slice_get, slice_get_within}
use Rattle.sub_base.specs.declared.profile.Profile.{Profile}
use Rattle.stream_syntax.specs.Segments.{IsWritable, is_entry_state}
use Rattle.cue_records.specs.declared.row_values.ColourRow.{ColourRow}
use Rattle.cue_list.specs.declared.epoch.Epoch.{Epoch}
use Rattle.cue_list.specs.declared.script.Script.{Script}
use Rattle.page_epoch.specs.EpochWalks.{IsNumbered}
use Rattle.page_epoch.specs.Live.{cue_at}
use Rattle.page_epoch.specs.Plan.{IsPlan}
use Rattle.page_epoch.specs.Sendable.{IsOfItsEpoch, IsSendableClut, IsSendableIn}
use Rattle.page_epoch.specs.SentCluts.{clut_count, clut_version, clut_with, defined_rows, named_cluts, rows_from, sent_clut}
use Rattle.page_epoch.specs.SentRegions.{listed_cues}
use Rattle.page_epoch.specs.States.{seen_of}
use Rattle.page_epoch.specs.declared.planned_set.PlannedSet.{PlannedSet}
use Rattle.page_epoch.specs.declared.planned_set.SentClut.{SentClut}
use Rattle.page_epoch.specs.declared.planned_set.SentRegion.{SentRegion}
use Rattle.page_epoch.proofs.CountLaws.{count_append, count_cons}
use Rattle.page_epoch.proofs.SendLaws.{sendable_all}
use Rattle.page_epoch.proofs.SoundLaws.{plain}
use Rattle.set_coder.specs.Usable.{IsUsable}
use Rattle.set_coder.specs.SetSegments.{clut_entry_of, clut_segment_of}
use Rattle.set_coder.proofs.UsableLaws.{usable}
use Rattle.set_coder.proofs.WritableLaws.{clut_writable}
use Rattle.shown_plan.proofs.Segments.CarriedSets.{ListsOwn, all_list_own, regions_single}
use Rattle.shown_plan.proofs.Segments.OwnIds.{AreSingle, single_from_pairs, single_head, single_permuted, single_tail}
use Rattle.shown_plan.proofs.Steps.ObjectsPaint.{is_own}
use Rattle.page_pair.proofs.PagedBytes.{bytes_on}
use Rattle.page_pair.proofs.PairSides.{AreOwn, IsKnownIn}
use Rattle.page_pair.proofs.SharedCluts.{AreAbove, AreRising, IsClut}

-- ---- cues

abbrev count_of : ℕ → List ℕ → ℕ
count_of place cues = count_by (λ (cue : ℕ). cue == place) cues

-- a cue of another region stands in no region's list
none_listed : (epoch : Epoch) (id place : ℕ) (cues : List ℕ) → All (λ cue. is_own epoch id cue ≡ true) cues
    → (cue_at epoch.cues place).region ≢ id → count_of place cues ≡ 0
none_listed epoch id place [] own other = refl
none_listed epoch id place (cue ∷ cues) own other =
    omega (
      arith,
      count_cons (λ (one : ℕ). one == place) cue cues,
      none_listed epoch id place cues (All-tail (λ one. is_own epoch id one ≡ true) cue cues own) other,
      ap (λ b. cond {A = ℕ} b 1 0) (by (cue == place) refl),
    )
  where
    same_place : (cue == place) ≡ true → cue ≡ place
    same_place e = grind (arith, nat_tests)

    same_region : (one : ℕ) → is_own epoch id one ≡ true → (cue_at epoch.cues one).region ≡ id
    same_region one e = grind (arith, nat_tests)

    by : (b : Bool) → (cue == place) ≡ b → (cue == place) ≡ false
    by false e = e
    by true e =
        absurd (other (subst (λ (one : ℕ). (cue_at epoch.cues one).region ≡ id) (same_place e)
        (same_region cue (All-head (λ one. is_own epoch id one ≡ true) cue cues own))))

once_listed : (place : ℕ) (cues : List ℕ) → AllPairs (λ (before later : ℕ). before < later) cues
    → count_of place cues ≤ 1
once_listed place cues rise =
    single_from_pairs (λ (cue : ℕ). cue) cues
    (λ i j d before within e. (let less = rise i j d before within in absurd (omega (arith, less, e)))) place

-- regions of different numbers list no cue twice
listed_once : (epoch : Epoch) (place : ℕ) (regions : List SentRegion) → All (ListsOwn epoch) regions
    → AreSingle (λ (one : SentRegion). one.id) regions → count_of place (listed_cues regions) ≤ 1
listed_once epoch place [] own single = omega arith
listed_once epoch place (sent ∷ regions) own single =
    by (sent.id == region) refl
    (listed_once epoch place regions rest (single_tail (λ (one : SentRegion). one.id) sent regions single))
  where
    region : ℕ
    region = (cue_at epoch.cues place).region

    here : ListsOwn epoch sent
    here = All-head (ListsOwn epoch) sent regions own

    rest : All (ListsOwn epoch) regions
    rest = All-tail (ListsOwn epoch) sent regions own

    others : (regions : List SentRegion) → All (ListsOwn epoch) regions
        → All (λ (one : SentRegion). region ≢ one.id) regions → count_of place (listed_cues regions) ≡ 0
    others [] own differ = refl
    others (one ∷ regions) own differ =
        omega (
          arith,
          count_append (λ (cue : ℕ). cue == place) one.cues (listed_cues regions),
          none_listed epoch one.id place one.cues (All-head (ListsOwn epoch) one regions own).own
              (All-head (λ (other : SentRegion). region ≢ other.id) one regions differ),
          others regions (All-tail (ListsOwn epoch) one regions own)
              (All-tail (λ (other : SentRegion). region ≢ other.id) one regions differ),
        )

    by : (b : Bool) → (sent.id == region) ≡ b → count_of place (listed_cues regions) ≤ 1
        → count_of place (listed_cues (sent ∷ regions)) ≤ 1
    by true e few =
        let same : sent.id ≡ region = grind (arith, nat_tests) in
        omega (
          arith,
          count_append (λ (cue : ℕ). cue == place) sent.cues (listed_cues regions),
          once_listed place sent.cues here.rise,
          others regions rest
              (subst (λ (id : ℕ). All (λ (one : SentRegion). id ≢ one.id) regions) same
              (single_head (λ (one : SentRegion). one.id) sent regions single)),
        )
    by false e few =
        let differ : region ≢ sent.id =
        (λ same. (let no : sent.id ≡ region = sym same in absurd (grind (arith, nat_tests)))) in
        omega (
          arith,
          count_append (λ (cue : ℕ). cue == place) sent.cues (listed_cues regions),
          none_listed epoch sent.id place sent.cues here.own differ,
          few,
        )

are_own : (cues : List ℕ) → AreSingle (λ (cue : ℕ). cue) cues → AreOwn cues
are_own [] single = tt
are_own (cue ∷ cues) single = (
  recursion_from_All (λ (other : ℕ). other ≢ cue) cues
      (λ k d within e. single_head (λ (one : ℕ). one) cue cues single k d within (sym e)),
  are_own cues (single_tail (λ (one : ℕ). one) cue cues single),
)

-- ---- CLUTs

-- numbers in rising order
abbrev AreUp : List ℕ → Type 0
AreUp [] = Unit {0}
AreUp (id ∷ ids) = AllByRecursion (λ (other : ℕ). id < other) ids × AreUp ids

above_range : (least first count : ℕ) → least < first
    → AllByRecursion (λ (other : ℕ). least < other) (range_with_len first count)
above_range least first zero less = tt
above_range least first (suc count) less = (less, above_range least (first + 1) count (omega (arith, less)))

up_range : (first count : ℕ) → AreUp (range_with_len first count)
up_range first zero = tt
up_range first (suc count) = (above_range first (first + 1) count (omega arith), up_range (first + 1) count)

above_kept : (least : ℕ) (p : ℕ → Bool) (ids : List ℕ) → AllByRecursion (λ (other : ℕ). least < other) ids
    → AllByRecursion (λ (other : ℕ). least < other) (filter p ids)
above_kept least p [] above = tt
above_kept least p (id ∷ ids) above = by (p id) (above_kept least p ids above.1)
  where
    by : (b : Bool) → AllByRecursion (λ (other : ℕ). least < other) (filter p ids)
        → AllByRecursion (λ (other : ℕ). least < other) (cond b (id ∷ filter p ids) (filter p ids))
    by true rest = (above.0, rest)
    by false rest = rest

up_kept : (p : ℕ → Bool) (ids : List ℕ) → AreUp ids → AreUp (filter p ids)
up_kept p [] up = tt
up_kept p (id ∷ ids) up = by (p id) (up_kept p ids up.1)
  where
    by : (b : Bool) → AreUp (filter p ids) → AreUp (cond b (id ∷ filter p ids) (filter p ids))
    by true rest = (above_kept id p ids up.0, rest)
    by false rest = rest

-- the CLUT of that number, or none
abbrev IsOneOf : ℕ → List SentClut → Type 0
IsOneOf id [] = Unit {0}
IsOneOf id (one ∷ []) = one.clut ≡ id
IsOneOf id (one ∷ other ∷ more) = ⊥

one_of : (colours : List ColourRow) (whole : Bool) (seen : List ℕ) (id : ℕ)
    → IsOneOf id (sent_clut colours whole seen id)
one_of colours whole [] id = tt
one_of colours whole (tick ∷ earlier) id = by (rows_from colours whole tick (defined_rows colours id tick))
  where
    by : (rows : List ℕ) → IsOneOf id (clut_with id (clut_version colours id (tick ∷ earlier)) rows)
    by [] = tt
    by (row ∷ rows) = refl

-- the segments of CLUTs that numbers in rising order send are in rising order
module _ (epoch : Epoch) (send : ℕ → List SentClut) (one_each : (id : ℕ) → IsOneOf id (send id)) where
  above_sent : (least : ℕ) (ids : List ℕ) → AllByRecursion (λ (other : ℕ). least < other) ids
      → AreAbove least (map (clut_segment_of epoch) (flat_map send ids))
  above_sent least [] above = tt
  above_sent least (id ∷ ids) above = by (send id) (one_each id) (above_sent least ids above.1)
    where
      by : (sent : List SentClut) → IsOneOf id sent
          → AreAbove least (map (clut_segment_of epoch) (flat_map send ids))
          → AreAbove least (map (clut_segment_of epoch) (sent ++ flat_map send ids))
      by [] is rest = rest
      by (one ∷ []) is rest = (omega (arith, is, above.0), rest)
      by (one ∷ other ∷ more) is rest = absurd is

  rising_sent : (ids : List ℕ) → AreUp ids → AreRising (map (clut_segment_of epoch) (flat_map send ids))
  rising_sent [] up = tt
  rising_sent (id ∷ ids) up = by (send id) (one_each id) (rising_sent ids up.1)
    where
      by : (sent : List SentClut) → IsOneOf id sent → AreRising (map (clut_segment_of epoch) (flat_map send ids))
          → AreRising (map (clut_segment_of epoch) (sent ++ flat_map send ids))
      by [] is rest = rest
      by (one ∷ []) is rest = (
        subst (λ (n : ℕ). AreAbove n (map (clut_segment_of epoch) (flat_map send ids))) (sym is)
            (above_sent id ids up.0),
        rest,
      )
      by (one ∷ other ∷ more) is rest = absurd is

is_clut : (epoch : Epoch) (sent : SentClut) → IsUsable epoch → IsSendableClut epoch sent
    → IsClut (clut_segment_of epoch sent)
is_clut epoch sent u s = record {
  behind = _;
  on_page = λ page small. bytes_on page (clut_segment_of epoch sent) (written page small);
  number = refl;
  writable = written;
}
  where
    written : (page : ℕ) → page < 2 ^ 16 → IsWritable page (clut_segment_of epoch sent)
    written page small = (clut_writable epoch page sent (map (clut_entry_of epoch) sent.rows) small u s refl).0

are_cluts : (epoch : Epoch) (sent : List SentClut) → IsUsable epoch → All (IsSendableClut epoch) sent
    → AllByRecursion IsClut (map (clut_segment_of epoch) sent)
are_cluts epoch [] u all = tt
are_cluts epoch (one ∷ sent) u all = (
  is_clut epoch one u (All-head (IsSendableClut epoch) one sent all),
  are_cluts epoch sent u (All-tail (IsSendableClut epoch) one sent all),
)

-- ---- a set

-- what is known of a set of a script, in its epoch
pub record IsKnownSet (script : Script) (set : PlannedSet) : Type 0 where
  pub epoch : Epoch
  pub found : slice_get script.epochs set.epoch ≡ Some epoch
  pub is : IsKnownIn epoch set

some_same : {X : Type 0} {a b : X} → Some a ≡ Some b → a ≡ b
some_same e = cc

known_set : (script : Script) (profile : Profile) (sets : List PlannedSet) (number : ℕ) (set : PlannedSet)
    → IsPlan script profile sets → slice_get sets number ≡ Some set → IsKnownSet script set
known_set script profile sets number set plan found =
    let right =
    plain script.origin script.width script.height script.refresh script.epochs script.pictures script.sound in
    let one : IsOfItsEpoch script set =
    subst (IsOfItsEpoch script) (get_or_from_slice_get sets number set set found)
    (sendable_all script profile sets right plan.planned number set (slice_get_within sets number set found)) in
    let next = plan.planned.first.each number set found in
    let epoch = next.epoch in
    let short = slice_get_within script.epochs set.epoch epoch next.place.found in
    let there = get_or_from_slice_get script.epochs set.epoch epoch epoch next.place.found in
    let numbered : IsNumbered epoch = subst IsNumbered there (right.numbered set.epoch epoch short) in
    let fits =
    (usable script.origin script.width script.height script.refresh set.epoch script.epochs script.pictures epoch
    script.sound next.place.found).0 in
    let sendable : IsSendableIn epoch set =
    subst (λ (e : Epoch). IsSendableIn e set) (some_same (sym one.found ∙ next.place.found)) one.carried in
    let carried = next.carried in
    let whole = is_entry_state set.state in
    let seen = seen_of epoch.start (reverse (take number sets)) set.pts in
    record {
      epoch = epoch;
      found = next.place.found;
      is = record {
        own =
            are_own set.cues (single_permuted (λ (cue : ℕ). cue) (listed_cues set.regions) set.cues carried.cues
            (λ place. listed_once epoch place set.regions
            (all_list_own epoch whole seen set.regions carried.regions)
            (regions_single epoch.cues epoch.regions whole seen set.regions numbered.apart carried.regions)));
        small =
            recursion_from_All (λ (cue : ℕ). cue < 32768) set.cues
            (λ k d within. (let there = sendable.cues k d within in omega (arith, there, fits.few_cues)));
        cluts = are_cluts epoch set.cluts fits sendable.cluts;
        rising =
            subst (λ (sent : List SentClut). AreRising (map (clut_segment_of epoch) sent)) (sym carried.cluts)
            (rising_sent epoch (sent_clut epoch.colours whole seen) (one_of epoch.colours whole seen)
            (named_cluts epoch.colours)
            (up_kept (λ clut. list_any (λ (row : ColourRow). row.clut == clut) epoch.colours)
            (range_with_len 0 clut_count) (up_range 0 clut_count)));
      };
    }

pub all_known : (script : Script) (profile : Profile) (sets : List PlannedSet) → IsPlan script profile sets
    → AllByRecursion (IsKnownSet script) sets
all_known script profile sets plan = by sets (λ number set found. known_set script profile sets number set plan found)
  where
    by : (left : List PlannedSet)
        → ((number : ℕ) (set : PlannedSet) → slice_get left number ≡ Some set → IsKnownSet script set)
        → AllByRecursion (IsKnownSet script) left
    by [] known = tt
    by (set ∷ left) known = (known 0 set refl, by left (λ number other found. known (suc number) other found))
