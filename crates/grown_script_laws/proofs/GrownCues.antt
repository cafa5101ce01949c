-- Cues and instants of scripts that go on above a horizon: which cues are live up to it, and the version of the page.
use Rattle.std.proofs.Common.{◌≡◌, ◌∙◌, sym, ap, subst, ℕ, zero, suc, ◌+◌, ◌-◌, ◌<◌, ◌≤◌, ◌==◌, ◌%◌, nat_le, Bool, false, List, [], ◌∷◌, ◌++◌, length, filter, drop, reverse, get_or, All, arith, length-append}
use Rattle.std.specs.List.{flat_map, range_with_len}
use Rattle.std.proofs.lemmas.Bool.Decides.{nat_tests}
use Rattle.std.proofs.lemmas.List.{append-nil, get_or-append-add, get_or-reverse, get_or_append_left, length-reverse}
use Rattle.std.proofs.lemmas.List.Elements.{All-drop, All-filter, filter-append}
use Rattle.std.proofs.lemmas.List.FromFn.{get_or-range_with_len, length-range_with_len}
use Rattle.cue_list.specs.declared.epoch.Cue.{Cue}
use Rattle.cue_list.specs.declared.epoch.Epoch.{Epoch}
use Rattle.cue_list.specs.Authored.{is_live}
use Rattle.cue_list.specs.Sound.{ticks_of_cue}
use Rattle.grown_script_laws.specs.Growth.{AreAbove, EpochGrows, EpochsGrow}
use Rattle.page_epoch.specs.Instants.{is_named}
use Rattle.page_epoch.specs.Live.{cue_at, live_places, no_cue, places_below}
use Rattle.page_epoch.specs.States.{page_version}
use Rattle.page_epoch.proofs.CountLaws.{count_agree}
use Rattle.grown_script_laws.proofs.GrownRows.{names_stay}
use Rattle.page_epoch.proofs.ListLaws.{filter_agree, filter_none, kept_within, places_within}
use Rattle.page_epoch.proofs.LiveLaws.{late_live}

-- ---- the version of the page

pub all_reversed : {X : Type 0} (P : X → Type 0) (xs : List X) → All P xs → All P (reverse xs)
all_reversed P xs each k d within =
    let long = length-reverse xs in
    let short : k < length xs = omega (arith, within, long) in
    subst P (sym (get_or-reverse xs k d short)) (each (length xs - 1 - k) d (omega (arith, short)))

-- the version of the page at instants up to the horizon stays the same
pub page_version_stays : (horizon : ℕ) (old new : List Epoch) (instants : List ℕ) → EpochsGrow horizon old new
    → All (λ tick. tick ≤ horizon) instants → page_version new instants ≡ page_version old instants
page_version_stays horizon old new instants grow early =
    let later = drop 1 (reverse instants) in
    let low : All (λ tick. tick ≤ horizon) later =
    All-drop (λ tick. tick ≤ horizon) 1 (reverse instants) (all_reversed (λ tick. tick ≤ horizon) instants early) in
    ap (λ (count : ℕ). count % 16)
    (count_agree (is_named new) (is_named old) later
    (λ k d within. names_stay horizon old new (get_or later k d) grow (low k d within)))

-- ---- live cues

pub places_split : (n a m : ℕ) → range_with_len a (n + m) ≡ range_with_len a n ++ range_with_len (a + n) m
places_split zero a m = ap (range_with_len a) (omega arith) ∙ ap (λ k. range_with_len k m) (omega arith)
places_split (suc n) a m =
    let more : suc n + m ≡ suc (n + m) = omega arith in
    let next : (a + 1) + n ≡ a + suc n = omega arith in
    ap (range_with_len a) more
    ∙ ap (λ rest. a ∷ rest)
    (places_split n (a + 1) m ∙ ap (λ k. range_with_len (a + 1) n ++ range_with_len k m) next)

-- a cue that was added is not live up to the horizon, and neither is none
cue_late : (horizon tick : ℕ) (more : List Cue) (i : ℕ) → AreAbove horizon (flat_map ticks_of_cue more)
    → tick ≤ horizon → is_live tick (cue_at more i) ≡ false
cue_late horizon tick [] i above early = grind (arith, nat_tests)
cue_late horizon tick (cue ∷ more) zero above early =
    let start = above 0 0 (omega arith) in
    let late : nat_le cue.start tick ≡ false = grind (arith, nat_tests) in
    late_live cue.start cue.end tick late
cue_late horizon tick (cue ∷ more) (suc i) above early =
    cue_late horizon tick more i (λ k d within. above (suc (suc k)) d (omega arith)) early

added_late : (horizon tick : ℕ) (old more : List Cue) → AreAbove horizon (flat_map ticks_of_cue more)
    → tick ≤ horizon
    → All (λ place. is_live tick (cue_at (old ++ more) place) ≡ false) (range_with_len (0 + length old) (length more))
added_late horizon tick old more above early k d within =
    let short : k < length more =
    subst (λ m. k < m) (length-range_with_len (0 + length old) (length more)) within in
    let place = get_or-range_with_len (0 + length old) (length more) k d short in
    let here : get_or (range_with_len (0 + length old) (length more)) k d ≡ length old + k = omega (arith, place) in
    ap (λ n. is_live tick (cue_at (old ++ more) n)) here
    ∙ ap (is_live tick) (get_or-append-add old more k no_cue) ∙ cue_late horizon tick more k above early

-- the live cues of a region at a tick up to the horizon stay the same
pub live_stay : (horizon : ℕ) (old more : List Cue) (region tick : ℕ)
    → AreAbove horizon (flat_map ticks_of_cue more) → tick ≤ horizon
    → live_places (old ++ more) region tick ≡ live_places old region tick
live_stay horizon old more region tick above early =
    let live : ℕ → Bool = λ place. is_live tick (cue_at (old ++ more) place) in
    let its : ℕ → Bool = λ place. (cue_at (old ++ more) place).region == region in
    let live_old : ℕ → Bool = λ place. is_live tick (cue_at old place) in
    let its_old : ℕ → Bool = λ place. (cue_at old place).region == region in
    let n = length old in
    let first = range_with_len 0 n in
    let second = range_with_len (0 + n) (length more) in
    let places : places_below (length (old ++ more)) ≡ first ++ second =
    ap places_below (length-append old more) ∙ places_split n 0 (length more) in
    let none : filter live (filter its second) ≡ [] =
    filter_none live (filter its second)
    (All-filter its (λ place. live place ≡ false) second (added_late horizon tick old more above early)) in
    let same_its : filter its first ≡ filter its_old first =
    filter_agree its its_old first
    (λ k d within. ap (λ (cue : Cue). cue.region == region)
    (get_or_append_left old more no_cue (get_or first k d) (places_within n k d within))) in
    let same_live : filter live (filter its_old first) ≡ filter live_old (filter its_old first) =
    filter_agree live live_old (filter its_old first)
    (λ k d within. ap (is_live tick)
    (get_or_append_left old more no_cue (get_or (filter its_old first) k d) (kept_within its_old n k d within))) in
    ap (λ xs. filter live (filter its xs)) places
    ∙ ap (filter live) (filter-append its first second)
    ∙ filter-append live (filter its first) (filter its second)
    ∙ ap (λ xs. filter live (filter its first) ++ xs) none
    ∙ append-nil (filter live (filter its first))
    ∙ ap (filter live) same_its
    ∙ same_live

-- the same of an epoch that goes on
pub live_places_stay : (horizon : ℕ) (old new : Epoch) (region tick : ℕ) → EpochGrows horizon old new
    → tick ≤ horizon → live_places new.cues region tick ≡ live_places old.cues region tick
live_places_stay horizon old new region tick grows early =
    ap (λ (cues : List Cue). live_places cues region tick) grows.cues
    ∙ live_stay horizon old.cues grows.more_cues region tick grows.cues_above early
