-- What a planned set carries is of its epoch, and fits the fields of its segments.
use Rattle.std.proofs.Common.{◌≡◌, ◌≢◌, ◌∙◌, ◌⊎◌, inl, inr, ℕ, suc, ◌+◌, ◌==◌, ◌<◌, ◌≤◌, ◌^◌, nat_le, Bool, true, false, not, cond, List, [], ◌∷◌, map, filter, take, reverse, length, get_or, All, find, Option, Some, IsSome, sum_by, refl, sym, ap, subst, arith}
use Rattle.std.specs.List.{flat_map, list_any, take_while, AllPairs}
use Rattle.std.specs.List.Sorted.{IsPermutation}
use Rattle.std.proofs.lemmas.Bool.Decides.{nat_tests}
use Rattle.std.proofs.lemmas.List.{length-map, length-append, length-drop, get_or-map, get_or-take}
use Rattle.std.proofs.lemmas.List.Elements.{All-cons, All-head, All-tail, All-map, All-weaker, All-filter, All-drop}
use Rattle.std.proofs.lemmas.List.Sorted.{length_permutation, All-permutation, sum_by-IsPermutation}
use Rattle.std.proofs.lemmas.List.Sums.{sum_by-cons}
use Rattle.std.proofs.lemmas.List.Concat.{flat_map-append}
use Rattle.std.proofs.lemmas.List.FromFn.{length-range_with_len}
use Rattle.std.proofs.lemmas.Option.{get_or_from_slice_get, slice_get-get_or, slice_get_within}
use Rattle.cue_list.specs.declared.epoch.Epoch.{Epoch}
use Rattle.cue_records.specs.declared.region.Region.{Region}
use Rattle.cue_list.specs.declared.epoch.Cue.{Cue}
use Rattle.cue_records.specs.declared.row_values.ColourRow.{ColourRow}
use Rattle.cue_list.specs.declared.script.Script.{Script}
use Rattle.page_epoch.specs.declared.planned_set.PlannedSet.{PlannedSet}
use Rattle.page_epoch.specs.declared.planned_set.SentRegion.{SentRegion}
use Rattle.page_epoch.specs.declared.planned_set.SentClut.{SentClut}
use Rattle.cue_list.specs.Authored.{is_live}
use Rattle.page_epoch.specs.Live.{cue_at, own_places, live_places, places_below}
use Rattle.page_epoch.specs.SentRegions.{is_redrawn, is_extended, region_version, live_before, filled, extended, sent_region}
use Rattle.page_epoch.specs.SentCluts.{row_at, clut_count, defined_rows, clut_version, clut_with, rows_from, sent_clut, named_cluts, sent_cluts}
use Rattle.page_epoch.specs.SentRegions.{listed_cues}
use Rattle.sub_base.specs.declared.profile.Profile.{Profile}
use Rattle.page_epoch.specs.Plan.{IsCarried, ArePlanned}
use Rattle.page_epoch.proofs.PlanLaws.{below_34}
use Rattle.page_epoch.specs.Sendable.{HasRegion, HasCue, HasColour, IsSendableRegion, IsSendableClut, IsSendableIn, IsOfItsEpoch}
use Rattle.page_epoch.specs.EpochWalks.{IsPlain, IsSmallEpoch, IsNumbered}
use Rattle.page_epoch.proofs.ListLaws.{length_kept, length_kept_places, kept_within, twice_within, All-none, All-one, All-pieces, one_each}
use Rattle.page_epoch.proofs.RowLaws.{defined_within, defined_few}
use Rattle.page_epoch.proofs.EpochWalkLaws.{count_is}
use Rattle.stream_syntax.specs.Segments.{is_entry_state}
use Rattle.sub_base.specs.Lists.{has_some}

-- ---- lists

one_more : (b : Bool) (x : ℕ) (xs : List ℕ) → length (cond b (x ∷ xs) xs) ≡ cond b 1 0 + length xs
one_more true x xs = omega arith
one_more false x xs = omega arith

-- ---- each has its own

found_or : (b : Bool) (x : Region) (other : Option Region) → IsSome other ⊎ (b ≡ true)
    → IsSome (cond b (Some x) other)
found_or true x other h = refl
found_or false x other (inl h) = h
found_or false x other (inr e) = cc

has_own : (regions : List Region)
    → All (λ (region : Region). IsSome (find (λ (other : Region). other.id == region.id) regions)) regions
has_own [] = All-none (λ (region : Region). IsSome (find (λ (other : Region). other.id == region.id) []))
has_own (first ∷ others) =
    All-cons (λ (region : Region). IsSome (find (λ (other : Region). other.id == region.id) (first ∷ others))) first
    others
    (found_or (first.id == first.id) first (find (λ (other : Region). other.id == first.id) others)
    (inr (grind (arith, nat_tests))))
    (All-weaker (λ (region : Region). IsSome (find (λ (other : Region). other.id == region.id) others))
    (λ (region : Region). IsSome (find (λ (other : Region). other.id == region.id) (first ∷ others)))
    (λ region h. found_or (first.id == region.id) first (find (λ (other : Region). other.id == region.id) others)
    (inl h)) others (has_own others))

-- ---- regions

send_by : (P : SentRegion → Type 0) (w r x : Bool) (f e : SentRegion) → P f → P e
    → All P (cond w (f ∷ []) (cond (not r) [] (cond x (e ∷ []) (f ∷ []))))
send_by P true r x f e pf pe = All-one P f pf
send_by P false true true f e pf pe = All-one P e pe
send_by P false true false f e pf pe = All-one P f pf
send_by P false false x f e pf pe = All-none P

one_by : (w r x : Bool) (f e : SentRegion)
    → length (cond w (f ∷ []) (cond (not r) [] (cond x (e ∷ []) (f ∷ [])))) ≤ 1
one_by true r x f e = omega arith
one_by false true true f e = omega arith
one_by false true false f e = omega arith
one_by false false x f e = omega arith

listed_one : (n : ℕ) (f : SentRegion) → length f.cues ≤ n → length (listed_cues (f ∷ [])) ≤ n
listed_one n f h = let e = length-append f.cues [] in omega arith

listed_by : (n : ℕ) (w r x : Bool) (f e : SentRegion) → length f.cues ≤ n → length e.cues ≤ n
    → length (listed_cues (cond w (f ∷ []) (cond (not r) [] (cond x (e ∷ []) (f ∷ []))))) ≤ n
listed_by n true r x f e hf he = listed_one n f hf
listed_by n false true true f e hf he = listed_one n e he
listed_by n false true false f e hf he = listed_one n f hf
listed_by n false false x f e hf he = omega arith

own_few : (cues : List Cue) (region : ℕ) → length (own_places cues region) ≤ length cues
own_few cues region = length_kept_places (λ place. (cue_at cues place).region == region) (length cues)

live_few : (cues : List Cue) (region tick : ℕ)
    → length (live_places cues region tick) ≤ length (own_places cues region)
live_few cues region tick = length_kept (λ place. is_live tick (cue_at cues place)) (own_places cues region)

live_within : (cues : List Cue) (region tick : ℕ)
    → All (λ place. place < length cues) (live_places cues region tick)
live_within cues region tick =
    twice_within (λ place. (cue_at cues place).region == region) (λ place. is_live tick (cue_at cues place))
    (length cues)

filled_fits : (epoch : Epoch) (id version : ℕ) (new : List ℕ) → HasRegion epoch id → id ≤ 255
    → version < 16 → length new ≤ 4096 → All (HasCue epoch) new
    → IsSendableRegion epoch (filled id version new)
filled_fits epoch id version new region number small few cues =
    record { region = region; number = number; version = small; few = few; cues = cues }

extended_fits : (epoch : Epoch) (id version : ℕ) (old new : List ℕ) → HasRegion epoch id → id ≤ 255
    → version < 16 → length new ≤ 4096 → All (HasCue epoch) new
    → IsSendableRegion epoch (extended id version old new)
extended_fits epoch id version old new region number small few cues =
    record {
      region = region;
      number = number;
      version = small;
      few = (let e = length-drop (length old) new in omega arith);
      cues = All-drop (HasCue epoch) (length old) new cues;
    }

region_version_small : (cues : List Cue) (id : ℕ) (seen : List ℕ) → region_version cues id seen < 16
region_version_small cues id seen = omega arith

region_fits : (epoch : Epoch) (whole : Bool) (tick : ℕ) (earlier : List ℕ) (region : Region)
    → length epoch.cues ≤ 4096 → HasRegion epoch region.id → region.id ≤ 255 →
    All (IsSendableRegion epoch) (sent_region epoch.cues whole (tick ∷ earlier) region.id)
region_fits epoch whole tick earlier region few has number =
    let old = live_before epoch.cues region.id earlier in
    let new = live_places epoch.cues region.id tick in
    let version = region_version epoch.cues region.id (tick ∷ earlier) in
    let small : version < 16 = region_version_small epoch.cues region.id (tick ∷ earlier) in
    let short : length new ≤ 4096 =
    let a = live_few epoch.cues region.id tick in let b = own_few epoch.cues region.id in omega arith in
    let within : All (HasCue epoch) new = live_within epoch.cues region.id tick in
    send_by (IsSendableRegion epoch) whole (is_redrawn old new) (is_extended old new) (filled region.id version new)
    (extended region.id version old new)
    (filled_fits epoch region.id version new has number small short within)
    (extended_fits epoch region.id version old new has number small short within)

one_region : (cues : List Cue) (whole : Bool) (tick : ℕ) (earlier : List ℕ) (region : Region)
    → length (sent_region cues whole (tick ∷ earlier) region.id) ≤ 1
one_region cues whole tick earlier region =
    let old = live_before cues region.id earlier in
    let new = live_places cues region.id tick in
    let version = region_version cues region.id (tick ∷ earlier) in
    one_by whole (is_redrawn old new) (is_extended old new) (filled region.id version new)
    (extended region.id version old new)

listed_region : (cues : List Cue) (whole : Bool) (tick : ℕ) (earlier : List ℕ) (region : Region)
    → length (listed_cues (sent_region cues whole (tick ∷ earlier) region.id))
    ≤ length (own_places cues region.id)
listed_region cues whole tick earlier region =
    let old = live_before cues region.id earlier in
    let new = live_places cues region.id tick in
    let version = region_version cues region.id (tick ∷ earlier) in
    let few = live_few cues region.id tick in
    listed_by (length (own_places cues region.id)) whole (is_redrawn old new) (is_extended old new)
    (filled region.id version new) (extended region.id version old new) few
    (let e = length-drop (length old) new in omega arith)

listed_few : (cues : List Cue) (whole : Bool) (tick : ℕ) (earlier : List ℕ) (ids : List Region) →
    length (listed_cues (flat_map (λ (region : Region). sent_region cues whole (tick ∷ earlier) region.id) ids))
    ≤ sum_by (λ (region : Region). length (own_places cues region.id)) ids
listed_few cues whole tick earlier [] = omega arith
listed_few cues whole tick earlier (x ∷ xs) =
    let f = λ (region : Region). sent_region cues whole (tick ∷ earlier) region.id in
    let split = flat_map-append (λ (sent : SentRegion). sent.cues) (f x) (flat_map f xs) in
    let all = ap length split in
    let both = length-append (listed_cues (f x)) (listed_cues (flat_map f xs)) in
    let here = listed_region cues whole tick earlier x in
    let rest = listed_few cues whole tick earlier xs in
    let total = sum_by-cons (λ (region : Region). length (own_places cues region.id)) x xs in
    omega arith

-- ---- each cue is of one region

pairs_head : (x : Region) (xs : List Region) → AllPairs (λ (a b : Region). a.id ≢ b.id) (x ∷ xs)
    → All (λ (b : Region). x.id ≢ b.id) xs
pairs_head x xs pairs = λ k d h. pairs 0 (suc k) d (omega arith) (omega arith)

pairs_tail : (x : Region) (xs : List Region) → AllPairs (λ (a b : Region). a.id ≢ b.id) (x ∷ xs)
    → AllPairs (λ (a b : Region). a.id ≢ b.id) xs
pairs_tail x xs pairs = λ i j d h short. pairs (suc i) (suc j) d (omega arith) (omega arith)

none_of : (v : ℕ) (xs : List Region) → All (λ (b : Region). v ≢ b.id) xs
    → sum_by (λ (r : Region). cond (v == r.id) 1 0) xs ≡ 0
none_of v [] all = refl
none_of v (x ∷ xs) all =
    let other : v ≢ x.id = All-head (λ (b : Region). v ≢ b.id) x xs all in
    let t : (v == x.id) ≡ false = grind (arith, nat_tests) in
    let here : cond {A = ℕ} (v == x.id) 1 0 ≡ 0 = ap (λ (b : Bool). cond {A = ℕ} b 1 0) t in
    let rest = none_of v xs (All-tail (λ (b : Region). v ≢ b.id) x xs all) in
    sum_by-cons (λ (r : Region). cond (v == r.id) 1 0) x xs
    ∙ (let add : cond {A = ℕ} (v == x.id) 1 0 + sum_by (λ (r : Region). cond (v == r.id) 1 0) xs
    ≡ 0 = omega arith in add)

one_of_by : (v : ℕ) (x : Region) (rest : ℕ) (b : Bool) → (v == x.id) ≡ b → (v ≡ x.id → rest ≡ 0)
    → rest ≤ 1 → cond (v == x.id) 1 0 + rest ≤ 1
one_of_by v x rest true t none few =
    let same : v ≡ x.id = grind (arith, nat_tests) in
    let zero = none same in
    let here : cond {A = ℕ} (v == x.id) 1 0 ≡ 1 = ap (λ (b : Bool). cond {A = ℕ} b 1 0) t in
    omega arith
one_of_by v x rest false t none few =
    let here : cond {A = ℕ} (v == x.id) 1 0 ≡ 0 = ap (λ (b : Bool). cond {A = ℕ} b 1 0) t in
    omega arith

pub one_of : (v : ℕ) (xs : List Region) → AllPairs (λ (a b : Region). a.id ≢ b.id) xs
    → sum_by (λ (r : Region). cond (v == r.id) 1 0) xs ≤ 1
one_of v [] pairs = omega arith
one_of v (x ∷ xs) pairs =
    let total = sum_by-cons (λ (r : Region). cond (v == r.id) 1 0) x xs in
    let few = one_of v xs (pairs_tail x xs pairs) in
    let all = one_of_by v x (sum_by (λ (r : Region). cond (v == r.id) 1 0) xs) (v == x.id) refl
    (λ same. none_of v xs
    (All-weaker (λ (b : Region). x.id ≢ b.id) (λ (b : Region). v ≢ b.id)
    (λ b other e. other (sym same ∙ e)) xs (pairs_head x xs pairs))) few in
    omega arith

zero_sum : (xs : List Region) → sum_by (λ (r : Region). 0) xs ≡ 0
zero_sum [] = refl
zero_sum (x ∷ xs) = let total = sum_by-cons (λ (r : Region). 0) x xs in let rest = zero_sum xs in omega arith

split_sum : (g : ℕ → ℕ) (x : ℕ) (xs : List ℕ) (regions : List Region) →
    sum_by (λ (r : Region). length (filter (λ (p : ℕ). g p == r.id) (x ∷ xs))) regions
    ≡ sum_by (λ (r : Region). cond (g x == r.id) 1 0) regions
    + sum_by (λ (r : Region). length (filter (λ (p : ℕ). g p == r.id) xs)) regions
split_sum g x xs [] = refl
split_sum g x xs (r ∷ rs) =
    let a = sum_by-cons (λ (r : Region). length (filter (λ (p : ℕ). g p == r.id) (x ∷ xs))) r rs in
    let b = sum_by-cons (λ (r : Region). cond (g x == r.id) 1 0) r rs in
    let c = sum_by-cons (λ (r : Region). length (filter (λ (p : ℕ). g p == r.id) xs)) r rs in
    let rest = split_sum g x xs rs in
    let here = one_more (g x == r.id) x (filter (λ (p : ℕ). g p == r.id) xs) in
    a ∙ (let add : length (filter (λ (p : ℕ). g p == r.id) (x ∷ xs))
    + sum_by (λ (r : Region). length (filter (λ (p : ℕ). g p == r.id) (x ∷ xs))) rs
    ≡ sum_by (λ (r : Region). cond (g x == r.id) 1 0) (r ∷ rs)
    + sum_by (λ (r : Region). length (filter (λ (p : ℕ). g p == r.id) xs)) (r ∷ rs) = omega arith in add)

shared : (g : ℕ → ℕ) (xs : List ℕ) (regions : List Region)
    → AllPairs (λ (a b : Region). a.id ≢ b.id) regions
    → sum_by (λ (r : Region). length (filter (λ (p : ℕ). g p == r.id) xs)) regions ≤ length xs
shared g [] regions pairs = let e = zero_sum regions in omega arith
shared g (x ∷ xs) regions pairs =
    let e = split_sum g x xs regions in
    let one = one_of (g x) regions pairs in
    let rest = shared g xs regions pairs in
    omega arith

-- ---- CLUTs

rows_fit : (P : ℕ → Type 0) (colours : List ColourRow) (whole : Bool) (tick : ℕ) (rows : List ℕ)
    → All P rows → All P (rows_from colours whole tick rows)
rows_fit P colours true tick rows all = all
rows_fit P colours false tick rows all = All-filter (λ place. (row_at colours place).tick == tick) P rows all

rows_few : (colours : List ColourRow) (whole : Bool) (tick : ℕ) (rows : List ℕ)
    → length (rows_from colours whole tick rows) ≤ length rows
rows_few colours true tick rows = omega arith
rows_few colours false tick rows = length_kept (λ place. (row_at colours place).tick == tick) rows

clut_fits : (epoch : Epoch) (clut version : ℕ) (rows : List ℕ) → clut ≤ 255 → version < 16
    → length rows ≤ 8192 → All (HasColour epoch) rows → All (IsSendableClut epoch) (clut_with clut version rows)
clut_fits epoch clut version [] number small few all = All-none (IsSendableClut epoch)
clut_fits epoch clut version (row ∷ rows) number small few all =
    All-one (IsSendableClut epoch) (record { clut = clut; version = version; rows = row ∷ rows })
    (record { number = number; version = small; few = few; rows = all })

clut_one : (clut version : ℕ) (rows : List ℕ) → length (clut_with clut version rows) ≤ 1
clut_one clut version [] = omega arith
clut_one clut version (row ∷ rows) = omega arith

clut_version_small : (colours : List ColourRow) (clut : ℕ) (seen : List ℕ) → clut_version colours clut seen < 16
clut_version_small colours clut seen = omega arith

cluts_fit : (epoch : Epoch) (whole : Bool) (tick : ℕ) (earlier : List ℕ)
    → All (IsSendableClut epoch) (sent_cluts epoch.colours whole (tick ∷ earlier))
cluts_fit epoch whole tick earlier =
    All-pieces (IsSendableClut epoch) (sent_clut epoch.colours whole (tick ∷ earlier)) (named_cluts epoch.colours)
    (All-weaker (λ (clut : ℕ). clut < clut_count)
    (λ (clut : ℕ). All (IsSendableClut epoch) (sent_clut epoch.colours whole (tick ∷ earlier) clut))
    (λ clut h.
    let count = count_is in
    let few = rows_few epoch.colours whole tick (defined_rows epoch.colours clut tick) in
    let most = defined_few epoch.colours clut tick in
    clut_fits epoch clut (clut_version epoch.colours clut (tick ∷ earlier))
    (rows_from epoch.colours whole tick (defined_rows epoch.colours clut tick)) (omega arith)
    (clut_version_small epoch.colours clut (tick ∷ earlier)) (omega arith)
    (rows_fit (HasColour epoch) epoch.colours whole tick (defined_rows epoch.colours clut tick)
    (defined_within epoch.colours clut tick)))
    (named_cluts epoch.colours) (kept_within (λ clut. list_any (λ row. row.clut == clut) epoch.colours) clut_count))

cluts_few : (colours : List ColourRow) (whole : Bool) (tick : ℕ) (earlier : List ℕ)
    → length (sent_cluts colours whole (tick ∷ earlier)) ≤ 256
cluts_few colours whole tick earlier =
    let few =
    one_each (sent_clut colours whole (tick ∷ earlier))
    (λ clut. clut_one clut (clut_version colours clut (tick ∷ earlier))
    (rows_from colours whole tick (defined_rows colours clut tick))) (named_cluts colours) in
    let named = length_kept_places (λ clut. list_any (λ row. row.clut == clut) colours) clut_count in
    let count = count_is in
    omega arith

-- ---- the whole set

known_regions : (epoch : Epoch) → IsNumbered epoch → (ordered : List Region)
    → IsPermutation epoch.regions ordered
    → All (λ (region : Region). HasRegion epoch region.id × (region.id ≤ 255)) ordered
known_regions epoch numbered ordered same =
    All-permutation (λ (region : Region). HasRegion epoch region.id × (region.id ≤ 255)) epoch.regions ordered same
    (λ k d h. (has_own epoch.regions k d h, numbered.bytes k d h))

sendable_in : (epoch : Epoch) (whole : Bool) (tick : ℕ) (earlier : List ℕ) (set : PlannedSet)
    → IsSmallEpoch epoch → IsNumbered epoch → IsCarried epoch whole (tick ∷ earlier) set → set.pts < 2 ^ 34
    → set.page_version < 16 → IsSendableIn epoch set
sendable_in epoch whole tick earlier set small numbered carried time page =
    let regions = carried.regions in
    let shown = carried.shown in
    let f = λ (region : Region). sent_region epoch.cues whole (tick ∷ earlier) region.id in
    let enough = small.cues in
    let most = small.regions in
    let known = known_regions epoch numbered regions.by_id regions.ordered.same in
    let all : All (IsSendableRegion epoch) set.regions =
    subst (λ (xs : List SentRegion). All (IsSendableRegion epoch) xs) (sym regions.is)
    (All-pieces (IsSendableRegion epoch) f regions.by_id
    (All-weaker (λ (region : Region). HasRegion epoch region.id × (region.id ≤ 255))
    (λ (region : Region). All (IsSendableRegion epoch) (f region))
    (λ region has. region_fits epoch whole tick earlier region enough has.0 has.1) regions.by_id known)) in
    let ids = length_permutation epoch.regions regions.by_id regions.ordered.same in
    let ys = length_permutation epoch.regions shown.by_y shown.ordered.same in
    record {
      time = time;
      page_version = page;
      few_shown =
          let same = ap length shown.is in
          let mapped =
          length-map (filter (λ (region : Region). has_some (live_places epoch.cues region.id set.pts)) shown.by_y)
          (λ (region : Region). region.id) in
          let kept =
          length_kept (λ (region : Region). has_some (live_places epoch.cues region.id set.pts)) shown.by_y in
          omega arith;
      shown = subst (λ (xs : List ℕ). All (HasRegion epoch) xs) (sym shown.is)
          (All-map (HasRegion epoch) (λ (region : Region). region.id)
          (filter (λ (region : Region). has_some (live_places epoch.cues region.id set.pts)) shown.by_y)
          (All-filter (λ (region : Region). has_some (live_places epoch.cues region.id set.pts))
          (λ (region : Region). HasRegion epoch region.id) shown.by_y
          (All-weaker (λ (region : Region). HasRegion epoch region.id × (region.id ≤ 255))
          (λ (region : Region). HasRegion epoch region.id) (λ region has. has.0) shown.by_y
          (known_regions epoch numbered shown.by_y shown.ordered.same))));
      few_regions =
          let same = ap length regions.is in let few = one_each f
          (λ region. one_region epoch.cues whole tick earlier region) regions.by_id in omega arith;
      regions = all;
      few_cluts =
          let same = ap length carried.cluts in let few = cluts_few epoch.colours whole tick earlier in omega arith;
      cluts =
          subst (λ (xs : List SentClut). All (IsSendableClut epoch) xs) (sym carried.cluts)
          (cluts_fit epoch whole tick earlier);
      few_cues =
          let moved = length_permutation (listed_cues set.regions) set.cues carried.cues in
          let same = ap (λ (xs : List SentRegion). length (listed_cues xs)) regions.is in
          let few = listed_few epoch.cues whole tick earlier regions.by_id in
          let total =
          sum_by-IsPermutation (λ (region : Region). length (own_places epoch.cues region.id)) epoch.regions
          regions.by_id regions.ordered.same in
          let each =
          shared (λ (place : ℕ). (cue_at epoch.cues place).region) (places_below (length epoch.cues))
          epoch.regions numbered.apart in
          let long = length-range_with_len 0 (length epoch.cues) in
          omega arith;
      cues = All-permutation (HasCue epoch) (listed_cues set.regions) set.cues carried.cues
          (All-pieces (HasCue epoch) (λ (region : SentRegion). region.cues) set.regions
          (All-weaker (IsSendableRegion epoch) (λ (region : SentRegion). All (HasCue epoch) region.cues)
          (λ region fits. fits.cues) set.regions all));
    }

pub sendable_all : (script : Script) (profile : Profile) (sets : List PlannedSet)
    → IsPlain script.epochs script.refresh → ArePlanned script.epochs script.refresh profile sets
    → All (IsOfItsEpoch script) sets
sendable_all script profile sets plain planned = λ k d h.
    let epochs = script.epochs in
    let set = get_or sets k d in
    let next = planned.first.each k set (slice_get-get_or sets k d h) in
    let epoch = next.epoch in
    let short = slice_get_within epochs set.epoch epoch next.place.found in
    let there = get_or_from_slice_get epochs set.epoch epoch epoch next.place.found in
    let all = planned.all in
    let time =
    sym (get_or-map (λ (x : PlannedSet). x.pts) sets k d 0 h)
    ∙ ap (λ (xs : List ℕ). get_or xs k 0) planned.first.times
    ∙ get_or-take (length sets) planned.instants k 0 h in
    let early =
    below_34 epochs script.refresh (get_or planned.instants k 0) plain.early
    (planned.are_instants.each k 0 (omega arith)) in
    let version = next.version in
    record {
      epoch = epoch;
      found = next.place.found;
      carried =
          sendable_in epoch (is_entry_state set.state) set.pts
          (take_while (nat_le epoch.start) (map (λ (x : PlannedSet). x.pts) (reverse (take k sets)))) set
          (subst IsSmallEpoch there (plain.small set.epoch epoch short))
          (subst IsNumbered there (plain.numbered set.epoch epoch short)) next.carried (omega arith) (omega arith);
    }
