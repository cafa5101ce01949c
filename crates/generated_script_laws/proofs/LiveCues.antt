-- How many cues of a generated epoch are live in a region at a tick: one in the first, two in the second.
use Rattle.std.proofs.Common.{◌≡◌, ◌∙◌, ◌⊎◌, inl, inr, ℕ, ◌+◌, ◌*◌, ◌%◌, ◌==◌, ◌<◌, ◌≤◌, Bool, true, false, if◌then◌else◌, List, [], ◌∷◌, length, get_or, All, sym, ap, arith}
use Rattle.std.specs.List.Sorted.{IsStrictlyIncreasing}
use Rattle.std.proofs.lemmas.Bool.Decides.{nat_tests}
use Rattle.std.proofs.lemmas.List.Elements.{All-filter, filter_passes}
use Rattle.std.proofs.lemmas.Bool.{eqb-true}
use Rattle.cue_list.specs.declared.epoch.Cue.{Cue}
use Rattle.cue_list.specs.declared.epoch.Epoch.{Epoch}
use Rattle.cue_list.specs.Authored.{is_live}
use Rattle.generated_script.specs.Generated.{generated_start, generated_length, IsGeneratedEpoch}
use Rattle.generated_script.proofs.TickLaws.{IsLong, length_of, lasts, cue_of}
use Rattle.page_epoch.specs.Live.{cue_at, no_cue, own_places, live_places, places_below}
use Rattle.page_epoch.specs.SentRegions.{drawn_count}
use Rattle.page_epoch.proofs.ListLaws.{twice_within}
use Rattle.page_epoch.proofs.LiveLaws.{live_rise}
use Rattle.page_epoch.proofs.RegionLaws.{drawn_count-more}
use Rattle.sub_base.specs.Lists.{has_some}

-- the most cues that are live in a region at once
abbrev pub most : ℕ → ℕ
most id = if id == 0 then 1 else 2

-- the cue at a place of epoch e is one of that region, and live at a tick
pub record IsShown (e id tick place : ℕ) : Type 0 where
  pub own : (16 * e + place) % 2 ≡ id
  pub begun : generated_start (16 * e + place) ≤ tick
  pub going : tick < generated_start (16 * e + place) + generated_length (16 * e + place)

pub begun_by : (tick : ℕ) (cue : Cue) → is_live tick cue ≡ true → cue.start ≤ tick
begun_by tick cue h = grind (arith, nat_tests)

pub going_at : (tick : ℕ) (cue : Cue) → is_live tick cue ≡ true → tick < cue.end
going_at tick cue h = grind (arith, nat_tests)

shown_at : (number e id tick : ℕ) (epoch : Epoch) (place : ℕ) → IsGeneratedEpoch number e epoch
    → place < length epoch.cues → ((cue_at epoch.cues place).region == id) ≡ true
    → is_live tick (cue_at epoch.cues place) ≡ true → IsShown e id tick place
shown_at number e id tick epoch place is h own live =
    let cue = cue_of number e epoch is place no_cue h in
    let region = ap (λ (c : Cue). c.region) cue in
    let start = ap (λ (c : Cue). c.start) cue in
    let end = ap (λ (c : Cue). c.end) cue in
    let same = eqb-true (cue_at epoch.cues place).region id own in
    let begun = begun_by tick (cue_at epoch.cues place) live in
    let going = going_at tick (cue_at epoch.cues place) live in
    record { own = sym region ∙ same; begun = omega arith; going = omega arith }

all_shown : (number e id tick : ℕ) (epoch : Epoch) → IsGeneratedEpoch number e epoch
    → All (IsShown e id tick) (live_places epoch.cues id tick)
all_shown number e id tick epoch is i other h =
    let live = λ (place : ℕ). is_live tick (cue_at epoch.cues place) in
    let own = λ (place : ℕ). (cue_at epoch.cues place).region == id in
    shown_at number e id tick epoch (get_or (live_places epoch.cues id tick) i other) is
    (twice_within own live (length epoch.cues) i other h)
    (All-filter live (λ place. own place ≡ true) (own_places epoch.cues id)
    (filter_passes own (places_below (length epoch.cues))) i other h)
    (filter_passes live (own_places epoch.cues id) i other h)

even_length : (k : ℕ) → k % 2 ≡ 0 → generated_length k ≡ 63000
even_length k even = by (length_of k)
  where
    by : IsLong k ⊎ (generated_length k ≡ 63000) → generated_length k ≡ 63000
    by (inl long) = let odd = long.odd in absurd (omega arith)
    by (inr short) = short

few_first : (e tick : ℕ) (places : List ℕ) → IsStrictlyIncreasing places → All (IsShown e 0 tick) places
    → length places ≤ 1
few_first e tick [] rise all = omega arith
few_first e tick (x ∷ []) rise all = omega arith
few_first e tick (x ∷ y ∷ rest) rise all =
    let first : IsShown e 0 tick x = all 0 0 (omega arith) in
    let second : IsShown e 0 tick y = all 1 0 (omega arith) in
    let less : x < y = rise 0 (omega arith) in
    let short = even_length (16 * e + x) first.own in
    let going = first.going in
    let begun = second.begun in
    absurd (omega arith)

few_any : (e id tick : ℕ) (places : List ℕ) → IsStrictlyIncreasing places → All (IsShown e id tick) places
    → length places ≤ 2
few_any e id tick [] rise all = omega arith
few_any e id tick (x ∷ []) rise all = omega arith
few_any e id tick (x ∷ y ∷ []) rise all = omega arith
few_any e id tick (x ∷ y ∷ z ∷ rest) rise all =
    let first : IsShown e id tick x = all 0 0 (omega arith) in
    let second : IsShown e id tick y = all 1 0 (omega arith) in
    let third : IsShown e id tick z = all 2 0 (omega arith) in
    let less : x < y = rise 0 (omega arith) in
    let more : y < z = rise 1 (omega arith) in
    let long = (lasts (16 * e + x)).1 in
    let a = first.own in
    let b = second.own in
    let c = third.own in
    let going = first.going in
    let begun = third.begun in
    absurd (omega arith)

pub few_live : (number e : ℕ) (epoch : Epoch) → IsGeneratedEpoch number e epoch → (id tick : ℕ)
    → length (live_places epoch.cues id tick) ≤ most id
few_live number e epoch is id tick = by (cases id)
  where
    cases : (n : ℕ) → (n ≡ 0) ⊎ (1 ≤ n)
    cases n = grind arith

    by : (id ≡ 0) ⊎ (1 ≤ id) → length (live_places epoch.cues id tick) ≤ most id
    by (inl none) =
        rw none (few_first e tick (live_places epoch.cues 0 tick) (live_rise epoch.cues 0 tick)
        (all_shown number e 0 tick epoch is))
    by (inr some) =
        let few =
        few_any e id tick (live_places epoch.cues id tick) (live_rise epoch.cues id tick)
        (all_shown number e id tick epoch is) in
        grind (arith, nat_tests)

one_of : (b : Bool) (x y n : ℕ) → x ≤ n → y ≤ n → (if b then x else y) ≤ n
one_of true x y n h g = h
one_of false x y n h g = g

-- a region holds no more cues than are ever live in it
pub few_held : (number e : ℕ) (epoch : Epoch) → IsGeneratedEpoch number e epoch → (id : ℕ) (seen : List ℕ)
    → drawn_count epoch.cues id seen ≤ most id
few_held number e epoch is id [] = grind (arith, nat_tests)
few_held number e epoch is id (tick ∷ earlier) =
    let here = drawn_count-more epoch.cues id tick earlier in
    let least =
    one_of (has_some (live_places epoch.cues id tick)) (length (live_places epoch.cues id tick))
    (drawn_count epoch.cues id earlier) (most id) (few_live number e epoch is id tick)
    (few_held number e epoch is id earlier) in
    rw here least
