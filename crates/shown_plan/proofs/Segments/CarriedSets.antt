-- What a set of a plan carries: regions that list cues of their own, in order, and of all its cues those of a region
-- are the ones that the region lists.
use Rattle.std.proofs.Common.{◌≡◌, ◌≢◌, ◌∙◌, ◌⊎◌, inl, inr, ℕ, ◌==◌, ◌<◌, ◌≤◌, Bool, true, false, not, ◌&&◌, ◌||◌, cond, List, [], ◌∷◌, ◌++◌, length, filter, get_or, refl, sym, ap, subst, arith}
use Rattle.std.specs.Prelude.{All}
use Rattle.std.specs.List.{AllPairs, Contains, list_any, range_with_len}
use Rattle.std.specs.List.Sorted.{IsNonDecreasing}
use Rattle.std.proofs.lemmas.Bool.Decides.{nat_tests}
use Rattle.std.proofs.lemmas.List.{append-nil}
use Rattle.std.proofs.lemmas.List.Folds.{list_any_at}
use Rattle.std.proofs.lemmas.List.Concat.{flat_map-append}
use Rattle.std.proofs.lemmas.List.Elements.{All-head, All-tail, All-cons, All-filter, All-drop, All-contains_itself, Contains-append_left, Contains-append_right, filter-append}
use Rattle.std.proofs.lemmas.List.FromFn.{length-range_with_len, get_or-range_with_len}
use Rattle.std.proofs.lemmas.List.Kept.{AllPairs-filter, IsNonDecreasingBy-filter}
use Rattle.std.proofs.lemmas.List.Sorted.{sum_by-IsPermutation}
use Rattle.cue_list.specs.Authored.{is_live}
use Rattle.cue_records.specs.declared.row_values.ColourRow.{ColourRow}
use Rattle.cue_list.specs.declared.epoch.Cue.{Cue}
use Rattle.cue_list.specs.declared.epoch.Epoch.{Epoch}
use Rattle.cue_records.specs.declared.region.Region.{Region}
use Rattle.page_epoch.proofs.CountLaws.{count_filter, same_sorted}
use Rattle.page_epoch.proofs.ListLaws.{All-none, All-one, All-pieces, filter_none}
use Rattle.page_epoch.proofs.RowLaws.{own_within}
use Rattle.page_epoch.specs.Live.{cue_at, times, own_places, live_places, places_below}
use Rattle.page_epoch.specs.Plan.{IsCarried}
use Rattle.page_epoch.specs.SentCluts.{no_row, rows_of_clut, row_at, clut_with, clut_count, clut_version, rows_from, defined_rows, sent_clut, named_cluts, sent_cluts}
use Rattle.page_epoch.specs.SentRegions.{is_redrawn, is_extended, region_version, live_before, filled, extended, region_from, sent_region, AreSentRegions, listed_cues}
use Rattle.page_epoch.specs.declared.planned_set.PlannedSet.{PlannedSet}
use Rattle.page_epoch.specs.declared.planned_set.SentClut.{SentClut}
use Rattle.page_epoch.specs.declared.planned_set.SentRegion.{SentRegion}
use Rattle.shown_plan.proofs.Steps.ClutRows.{defined_own}
use Rattle.shown_plan.proofs.Steps.Keeps.{AreRising}
use Rattle.shown_plan.proofs.Segments.Lists.{kept_pass, kept_one, all_at, any_place, place_there}
use Rattle.shown_plan.proofs.Steps.ObjectsPaint.{is_own}
use Rattle.shown_plan.proofs.Segments.OwnIds.{AreSingle, single_from_pairs, single_permuted, single_sent}
use Rattle.shown_plan.proofs.Segments.Parts.{HasPart, HaveOwnIds, region_part, part_of, parted, sent_own, others_sent}
use Rattle.shown_plan.proofs.Steps.RegionNext.{live_rising, rising_drop}

-- ---- regions

-- a region that is sent lists cues of its own, in rising order of their places
pub record ListsOwn (epoch : Epoch) (sent : SentRegion) : Type 0 where
  pub own : All (λ place. is_own epoch sent.id place ≡ true) sent.cues
  pub rise : AreRising sent.cues

live_own : (epoch : Epoch) (id tick : ℕ)
    → All (λ place. is_own epoch id place ≡ true) (live_places epoch.cues id tick)
live_own epoch id tick =
    All-filter (λ place. is_live tick (cue_at epoch.cues place)) (λ place. is_own epoch id place ≡ true)
    (own_places epoch.cues id)
    (kept_pass (λ place. (cue_at epoch.cues place).region == id) (places_below (length epoch.cues)))

from_lists : (epoch : Epoch) (id version tick : ℕ) (whole : Bool) (old : List ℕ)
    → All (ListsOwn epoch) (region_from id version whole old (live_places epoch.cues id tick))
from_lists epoch id version tick whole old = by whole (is_redrawn old new) (is_extended old new)
  where
    new : List ℕ
    new = live_places epoch.cues id tick

    anew : ListsOwn epoch (filled id version new)
    anew = record { own = live_own epoch id tick; rise = live_rising epoch id tick }

    onward : ListsOwn epoch (extended id version old new)
    onward =
        record {
          own = All-drop (λ place. is_own epoch id place ≡ true) (length old) new (live_own epoch id tick);
          rise = rising_drop (length old) new (live_rising epoch id tick);
        }

    by : (w r x : Bool)
        → All (ListsOwn epoch)
        (cond w (filled id version new ∷ [])
        (cond (not r) [] (cond x (extended id version old new ∷ []) (filled id version new ∷ []))))
    by true r x = All-one (ListsOwn epoch) (filled id version new) anew
    by false false x = All-none _
    by false true true = All-one (ListsOwn epoch) (extended id version old new) onward
    by false true false = All-one (ListsOwn epoch) (filled id version new) anew

sent_lists : (epoch : Epoch) (whole : Bool) (seen : List ℕ) (id : ℕ)
    → All (ListsOwn epoch) (sent_region epoch.cues whole seen id)
sent_lists epoch whole [] id = All-none _
sent_lists epoch whole (tick ∷ earlier) id =
    from_lists epoch id (region_version epoch.cues id (tick ∷ earlier)) tick whole (live_before epoch.cues id earlier)

pub all_list_own : (epoch : Epoch) (whole : Bool) (seen : List ℕ) (sent : List SentRegion)
    → AreSentRegions epoch.cues epoch.regions whole seen sent → All (ListsOwn epoch) sent
all_list_own epoch whole seen sent are =
    subst (All (ListsOwn epoch)) (sym are.is)
    (All-pieces (ListsOwn epoch) (λ (region : Region). sent_region epoch.cues whole seen region.id) are.by_id
    (λ k d within. sent_lists epoch whole seen (get_or are.by_id k d).id))

sent_once : (cues : List Cue) (whole : Bool) (seen : List ℕ) (id : ℕ)
    → length (sent_region cues whole seen id) ≤ 1
sent_once cues whole [] id = omega arith
sent_once cues whole (tick ∷ earlier) id =
    by whole (is_redrawn (live_before cues id earlier) (live_places cues id tick))
    (is_extended (live_before cues id earlier) (live_places cues id tick))
  where
    anew : SentRegion
    anew = filled id (region_version cues id (tick ∷ earlier)) (live_places cues id tick)

    onward : SentRegion
    onward =
        extended id (region_version cues id (tick ∷ earlier)) (live_before cues id earlier) (live_places cues id tick)

    by : (w r x : Bool) → length (cond w (anew ∷ []) (cond (not r) [] (cond x (onward ∷ []) (anew ∷ [])))) ≤ 1
    by true r x = omega arith
    by false false x = omega arith
    by false true true = omega arith
    by false true false = omega arith

-- regions are sent once each
pub regions_single : (cues : List Cue) (regions : List Region) (whole : Bool) (seen : List ℕ)
    (sent : List SentRegion) → HaveOwnIds regions → AreSentRegions cues regions whole seen sent
    → AreSingle (λ (one : SentRegion). one.id) sent
regions_single cues regions whole seen sent apart are =
    subst (AreSingle (λ (one : SentRegion). one.id)) (sym are.is)
    (single_sent (λ (one : SentRegion). one.id) (λ (region : Region). region.id)
    (λ (region : Region). sent_region cues whole seen region.id) are.by_id
    (λ (region : Region). sent_own cues whole seen region.id)
    (λ (region : Region). sent_once cues whole seen region.id)
    (single_permuted (λ (region : Region). region.id) regions are.by_id are.ordered.same
    (single_from_pairs (λ (region : Region). region.id) regions apart)))

-- ---- the cues of a region

other_cues : (epoch : Epoch) (id : ℕ) (sent : List SentRegion) → All (ListsOwn epoch) sent
    → All (λ (one : SentRegion). one.id ≢ id) sent → filter (is_own epoch id) (listed_cues sent) ≡ []
other_cues epoch id [] lists other = refl
other_cues epoch id (one ∷ sent) lists other =
    filter-append (is_own epoch id) one.cues (listed_cues sent)
    ∙ (λ i. none i
    ++ other_cues epoch id sent (All-tail (ListsOwn epoch) one sent lists)
    (All-tail (λ (one : SentRegion). one.id ≢ id) one sent other) i)
  where
    differ : one.id ≢ id
    differ = All-head (λ (one : SentRegion). one.id ≢ id) one sent other

    none : filter (is_own epoch id) one.cues ≡ []
    none =
        filter_none (is_own epoch id) one.cues
        (λ k d within. (let own = (All-head (ListsOwn epoch) one sent lists).own k d within in grind
        (arith, nat_tests)))

all_own : (epoch : Epoch) (id : ℕ) (places : List ℕ) → All (λ place. is_own epoch id place ≡ true) places
    → filter (is_own epoch id) places ≡ places
all_own epoch id [] own = refl
all_own epoch id (place ∷ places) own =
    ap (λ b. cond b (place ∷ filter (is_own epoch id) places) (filter (is_own epoch id) places))
    (All-head (λ place. is_own epoch id place ≡ true) place places own)
    ∙ ap (λ rest. place ∷ rest)
    (all_own epoch id places (All-tail (λ place. is_own epoch id place ≡ true) place places own))

falls_not : (places : List ℕ) → AreRising places → IsNonDecreasing places
falls_not places rise i j d low within = by (grind arith)
  where
    by : (i ≡ j) ⊎ (i < j) → get_or places i d ≤ get_or places j d
    by (inl same) = (let e = ap (λ (k : ℕ). get_or places k d) same in omega (arith, e))
    by (inr before) = (let less = rise i j d before within in omega (arith, less))

-- of the cues of a set those of a region are the ones that it lists
pub own_listed : {epoch : Epoch} {whole : Bool} {seen : List ℕ} {set : PlannedSet} (region : Region)
    → HaveOwnIds epoch.regions → IsCarried epoch whole seen set → Contains epoch.regions region
    → (sent : SentRegion) → sent_region epoch.cues whole seen region.id ≡ sent ∷ []
    → filter (is_own epoch region.id) set.cues ≡ sent.cues
own_listed {epoch} {whole} {seen} {set} region apart carried there sent one =
    same_sorted (filter (is_own epoch region.id) set.cues) sent.cues
    (IsNonDecreasingBy-filter (λ x. x) (is_own epoch region.id) set.cues carried.in_order)
    (falls_not sent.cues lists.rise)
    (λ v. count_filter (λ place. place == v) (is_own epoch region.id) set.cues
    ∙ sum_by-IsPermutation (λ place. cond {A = ℕ} (is_own epoch region.id place && (place == v)) 1 0)
    (listed_cues set.regions) set.cues carried.cues
    ∙ sym (count_filter (λ place. place == v) (is_own epoch region.id) (listed_cues set.regions))
    ∙ ap (times v) listed)
  where
    part : HasPart (λ (sent : SentRegion). sent.id) region.id (sent_region epoch.cues whole seen region.id) set.regions
    part = region_part epoch.cues epoch.regions whole seen set.regions region apart carried.regions there

    all_lists : All (ListsOwn epoch) (part.front ++ (sent ∷ part.back))
    all_lists =
        subst (All (ListsOwn epoch)) (part.whole ∙ ap (λ own. part.front ++ (own ++ part.back)) one)
        (all_list_own epoch whole seen set.regions carried.regions)

    lists : ListsOwn epoch sent
    lists =
        all_at (ListsOwn epoch) (part.front ++ (sent ∷ part.back)) sent all_lists
        (Contains-append_right part.front (sent ∷ part.back) sent (0, omega arith, refl))

    mine : sent.id ≡ region.id
    mine =
        All-head (λ (s : SentRegion). s.id ≡ region.id) sent []
        (subst (All (λ (s : SentRegion). s.id ≡ region.id)) one (sent_own epoch.cues whole seen region.id))

    front_lists : All (ListsOwn epoch) part.front
    front_lists =
        λ k d within. all_at (ListsOwn epoch) (part.front ++ (sent ∷ part.back)) (get_or part.front k d) all_lists
        (Contains-append_left part.front (sent ∷ part.back) (get_or part.front k d)
        (All-contains_itself part.front k d within))

    back_lists : All (ListsOwn epoch) part.back
    back_lists = λ k d within.
        all_at (ListsOwn epoch) (part.front ++ (sent ∷ part.back)) (get_or part.back k d) all_lists
        (Contains-append_right part.front (sent ∷ part.back) (get_or part.back k d)
        (Contains-append_right (sent ∷ []) part.back (get_or part.back k d)
        (All-contains_itself part.back k d within)))

    listed : filter (is_own epoch region.id) (listed_cues set.regions) ≡ sent.cues
    listed =
        ap (λ all. filter (is_own epoch region.id) (listed_cues all))
        (part.whole ∙ ap (λ own. part.front ++ (own ++ part.back)) one)
        ∙ ap (filter (is_own epoch region.id))
        (flat_map-append (λ (s : SentRegion). s.cues) part.front (sent ∷ part.back))
        ∙ filter-append (is_own epoch region.id) (listed_cues part.front) (sent.cues ++ listed_cues part.back)
        ∙ ap (λ front. front ++ filter (is_own epoch region.id) (sent.cues ++ listed_cues part.back))
        (other_cues epoch region.id part.front front_lists part.before)
        ∙ filter-append (is_own epoch region.id) sent.cues (listed_cues part.back)
        ∙ (λ i. all_own epoch region.id sent.cues
        (subst (λ (id : ℕ). All (λ place. is_own epoch id place ≡ true) sent.cues) mine lists.own) i
        ++ other_cues epoch region.id part.back back_lists part.behind i)
        ∙ append-nil sent.cues

-- ---- CLUTs

places_rising : (n : ℕ) → AllPairs (λ (a b : ℕ). a ≢ b) (range_with_len 0 n)
places_rising n i j d before within e =
    let long = length-range_with_len 0 n in
    let first = get_or-range_with_len 0 n i d (omega (arith, before, within, long)) in
    let second = get_or-range_with_len 0 n j d (omega (arith, within, long)) in
    absurd (omega (arith, e, first, second, before))

pub clut_own : (colours : List ColourRow) (whole : Bool) (seen : List ℕ) (clut : ℕ)
    → All (λ (sent : SentClut). sent.clut ≡ clut) (sent_clut colours whole seen clut)
clut_own colours whole [] clut = All-none _
clut_own colours whole (tick ∷ earlier) clut = by (rows_from colours whole tick (defined_rows colours clut tick))
  where
    by : (rows : List ℕ)
        → All (λ (sent : SentClut). sent.clut ≡ clut)
        (clut_with clut (clut_version colours clut (tick ∷ earlier)) rows)
    by [] = All-none _
    by (row ∷ rows) =
        All-one (λ (sent : SentClut). sent.clut ≡ clut)
        (record { clut = clut; version = clut_version colours clut (tick ∷ earlier); rows = row ∷ rows }) refl

pub clut_once : (colours : List ColourRow) (whole : Bool) (seen : List ℕ) (clut : ℕ)
    → length (sent_clut colours whole seen clut) ≤ 1
clut_once colours whole [] clut = omega arith
clut_once colours whole (tick ∷ earlier) clut = by (rows_from colours whole tick (defined_rows colours clut tick))
  where
    by : (rows : List ℕ) → length (clut_with clut (clut_version colours clut (tick ∷ earlier)) rows) ≤ 1
    by [] = omega arith
    by (row ∷ rows) = omega arith

named_single : (colours : List ColourRow) → AreSingle (λ (clut : ℕ). clut) (named_cluts colours)
named_single colours =
    single_from_pairs (λ (clut : ℕ). clut) (named_cluts colours)
    (AllPairs-filter (λ (a b : ℕ). a ≢ b) (λ clut. list_any (λ (row : ColourRow). row.clut == clut) colours)
    (range_with_len 0 clut_count) (places_rising clut_count))

-- CLUTs are sent once each
pub cluts_single : (colours : List ColourRow) (whole : Bool) (seen : List ℕ)
    → AreSingle (λ (sent : SentClut). sent.clut) (sent_cluts colours whole seen)
cluts_single colours whole seen =
    single_sent (λ (sent : SentClut). sent.clut) (λ (clut : ℕ). clut) (sent_clut colours whole seen)
    (named_cluts colours) (clut_own colours whole seen) (clut_once colours whole seen) (named_single colours)

pub in_range : (id : ℕ) → id < 256 → Contains (range_with_len 0 clut_count) id
unfolding clut_count
in_range id low = place_there 256 id low

-- the segment of each CLUT stands among those of all, if it is sent at all
pub clut_part : (colours : List ColourRow) (whole : Bool) (tick : ℕ) (earlier : List ℕ) (id : ℕ)
    → All (λ (row : ColourRow). row.clut < 256) colours
    → HasPart (λ (sent : SentClut). sent.clut) id (sent_clut colours whole (tick ∷ earlier) id)
    (sent_cluts colours whole (tick ∷ earlier))
clut_part colours whole tick earlier id small = by (list_any (λ clut. clut == id) (named_cluts colours)) refl
  where
    Part : Type 0
    Part =
        HasPart (λ (sent : SentClut). sent.clut) id (sent_clut colours whole (tick ∷ earlier) id)
        (sent_cluts colours whole (tick ∷ earlier))

    named : (place : ℕ) → Contains (rows_of_clut colours id) place
        → list_any (λ clut. clut == id) (named_cluts colours) ≡ true
    named place there =
        (let own : ((row_at colours place).clut == id)
        ≡ true = all_at (λ place. ((row_at colours place).clut == id) ≡ true) (rows_of_clut colours id) place
        (kept_pass (λ place. (row_at colours place).clut == id) (places_below (length colours))) there in
        let within : place < length colours =
        all_at (λ place. place < length colours) (rows_of_clut colours id) place (own_within colours id) there in
        let any : list_any (λ (row : ColourRow). row.clut == id) colours ≡ true =
        list_any_at (λ (row : ColourRow). row.clut == id) colours place no_row within own in
        let low : id < 256 = (let here = small place no_row within in grind (arith, nat_tests)) in
        let listed =
        kept_one (λ clut. list_any (λ (row : ColourRow). row.clut == clut) colours) (range_with_len 0 clut_count)
        id (in_range id low) any in
        list_any_at (λ clut. clut == id) (named_cluts colours) listed.0 id listed.1
        (let same = listed.2 in grind (arith, nat_tests)))

    none_sent : list_any (λ clut. clut == id) (named_cluts colours) ≡ false → (rows : List ℕ)
        → rows_from colours whole tick (defined_rows colours id tick) ≡ rows
        → sent_clut colours whole (tick ∷ earlier) id ≡ []
    none_sent absent [] is = ap (clut_with id (clut_version colours id (tick ∷ earlier))) is
    none_sent absent (place ∷ rows) is =
        (let there : Contains (rows_from colours whole tick (defined_rows colours id tick)) place = subst
        (λ (all : List ℕ). Contains all place) (sym is) (0, omega arith, refl) in
        let defined = in_defined whole place there in
        let own =
        all_at (λ place. Contains (rows_of_clut colours id) place × ((row_at colours place).tick ≤ tick))
        (defined_rows colours id tick) place (defined_own colours id tick) defined in
        let no : true ≡ false = sym (named place own.0) ∙ absent in absurd (cc))
      where
        in_defined : (whole : Bool) (place : ℕ)
            → Contains (rows_from colours whole tick (defined_rows colours id tick)) place
            → Contains (defined_rows colours id tick) place
        in_defined true place there = there
        in_defined false place there =
            all_at (Contains (defined_rows colours id tick))
            (rows_from colours false tick (defined_rows colours id tick)) place
            (All-filter (λ place. (row_at colours place).tick == tick) (Contains (defined_rows colours id tick))
            (defined_rows colours id tick) (All-contains_itself (defined_rows colours id tick))) there

    by : (b : Bool) → list_any (λ clut. clut == id) (named_cluts colours) ≡ b → Part
    by true present =
        (let at = any_place (λ clut. clut == id) (named_cluts colours) id present in
        let same : get_or (named_cluts colours) at.0 id ≡ id = (let e = at.2 in grind (arith, nat_tests)) in
        part_of (λ (sent : SentClut). sent.clut) (λ (clut : ℕ). clut) (sent_clut colours whole (tick ∷ earlier))
        id (named_cluts colours) (clut_own colours whole (tick ∷ earlier))
        (parted (λ clut. clut == id) id (named_cluts colours) (named_single colours id) (grind (arith, nat_tests))
        (at.0, at.1, same)))
    by false absent =
        (let none = none_sent absent (rows_from colours whole tick (defined_rows colours id tick)) refl in
        record {
          front = sent_cluts colours whole (tick ∷ earlier);
          back = [];
          whole =
              sym (ap (λ own. sent_cluts colours whole (tick ∷ earlier) ++ (own ++ [])) none
              ∙ append-nil (sent_cluts colours whole (tick ∷ earlier)));
          before =
              others_sent (λ (sent : SentClut). sent.clut) (λ (clut : ℕ). clut)
              (sent_clut colours whole (tick ∷ earlier)) id (named_cluts colours)
              (clut_own colours whole (tick ∷ earlier)) (list_any_false (named_cluts colours) absent);
          behind = All-none _;
        })
      where
        list_any_false : (xs : List ℕ) → list_any (λ clut. clut == id) xs ≡ false
            → All (λ clut. (clut == id) ≡ false) xs
        list_any_false [] e = All-none _
        list_any_false (x ∷ xs) e = one (x == id) refl e (list_any_false xs)
          where
            one : (b : Bool) → (x == id) ≡ b → (b || list_any (λ clut. clut == id) xs) ≡ false
                → (list_any (λ clut. clut == id) xs ≡ false → All (λ clut. (clut == id) ≡ false) xs)
                → All (λ clut. (clut == id) ≡ false) (x ∷ xs)
            one true is e again = absurd (cc)
            one false is e again = All-cons (λ clut. (clut == id) ≡ false) x xs is (again e)
