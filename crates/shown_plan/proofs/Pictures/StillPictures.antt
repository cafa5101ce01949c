-- Between two ticks that no record names between them the authored picture stays.
use Rattle.std.proofs.Common.{◌≡◌, ◌∙◌, ◌⊎◌, inl, inr, ℕ, zero, suc, ◌==◌, ◌&&◌, ◌<◌, ◌≤◌, nat_le, nat_lt, Bool, true, false, cond, List, [], ◌∷◌, ◌++◌, map, get_or, Some, None, refl, ap, arith}
use Rattle.std.specs.Prelude.{All, slice_get}
use Rattle.std.specs.List.{Contains, flat_map}
use Rattle.std.specs.Option.{option_or}
use Rattle.std.proofs.lemmas.Bool.Decides.{nat_tests}
use Rattle.std.proofs.lemmas.List.Elements.{All-contains_itself, Contains-append_left, Contains-append_right}
use Rattle.sub_base.specs.Depth.{bits_of}
use Rattle.sub_base.specs.Lists.{last_given}
use Rattle.sub_base.specs.declared.depth.Depth.{Depth}
use Rattle.cue_list.specs.Authored.{epoch_at, is_live, live_cues, sets_entry, latest_row, authored_colour, colour_or_default}
use Rattle.cue_list.specs.Sound.{ticks_of, ticks_of_cue}
use Rattle.cue_records.specs.declared.row_values.ColourRow.{ColourRow}
use Rattle.cue_list.specs.declared.epoch.Cue.{Cue}
use Rattle.cue_list.specs.declared.epoch.Epoch.{Epoch}
use Rattle.page_epoch.proofs.ListLaws.{filter_agree}
use Rattle.page_epoch.specs.Instants.{named_ticks}
use Rattle.page_epoch.specs.Plan.{IsEpochAt}
use Rattle.shown_plan.proofs.Segments.Lists.{all_at, mapped_there, piece_there}
use Rattle.shown_plan.proofs.Pictures.Painted.{find_turned}
use Rattle.shown_plan.proofs.Segments.PlannedSets.{there_at}

-- no record names a tick behind the first one and up to the second
abbrev pub AreStill : ℕ → ℕ → List ℕ → Type 0
AreStill from tick named = All (λ time. (time ≤ from) ⊎ (tick < time)) named

-- ---- the ticks of an epoch

row_tick : (epoch : Epoch) (row : ColourRow) → Contains epoch.colours row → Contains (ticks_of epoch) row.tick
row_tick epoch row there =
    Contains-append_right (epoch.start ∷ [])
    (map (λ (row : ColourRow). row.tick) epoch.colours ++ flat_map ticks_of_cue epoch.cues) row.tick
    (Contains-append_left (map (λ (row : ColourRow). row.tick) epoch.colours) (flat_map ticks_of_cue epoch.cues)
    row.tick (mapped_there (λ (row : ColourRow). row.tick) epoch.colours row there))

pub cue_start : (epoch : Epoch) (cue : Cue) → Contains epoch.cues cue → Contains (ticks_of epoch) cue.start
cue_start epoch cue there =
    Contains-append_right (epoch.start ∷ [])
    (map (λ (row : ColourRow). row.tick) epoch.colours ++ flat_map ticks_of_cue epoch.cues) cue.start
    (Contains-append_right (map (λ (row : ColourRow). row.tick) epoch.colours) (flat_map ticks_of_cue epoch.cues)
    cue.start (piece_there ticks_of_cue epoch.cues cue cue.start there (0, omega arith, refl)))

pub cue_end : (epoch : Epoch) (cue : Cue) → Contains epoch.cues cue → Contains (ticks_of epoch) cue.end
cue_end epoch cue there =
    Contains-append_right (epoch.start ∷ [])
    (map (λ (row : ColourRow). row.tick) epoch.colours ++ flat_map ticks_of_cue epoch.cues) cue.end
    (Contains-append_right (map (λ (row : ColourRow). row.tick) epoch.colours) (flat_map ticks_of_cue epoch.cues)
    cue.end (piece_there ticks_of_cue epoch.cues cue cue.end there (1, omega arith, refl)))

-- ---- what stays

same_side : (time from tick : ℕ) → from ≤ tick → (time ≤ from) ⊎ (tick < time)
    → nat_le time tick ≡ nat_le time from
same_side time from tick order side = by (nat_le time tick) (nat_le time from) refl refl side
  where
    by : (a b : Bool) → nat_le time tick ≡ a → nat_le time from ≡ b → (time ≤ from) ⊎ (tick < time)
        → a ≡ b
    by true true ea eb side = refl
    by false false ea eb side = refl
    by true false ea eb (inl low) = absurd (grind (arith, nat_tests))
    by true false ea eb (inr high) = absurd (grind (arith, nat_tests))
    by false true ea eb (inl low) =
        absurd (let late : tick < time = grind (arith, nat_tests) in omega (arith, late, low, order))
    by false true ea eb (inr high) =
        absurd (let early : time ≤ from = grind (arith, nat_tests) in omega (arith, early, high, order))

before_side : (time from tick : ℕ) → from ≤ tick → (time ≤ from) ⊎ (tick < time)
    → nat_lt tick time ≡ nat_lt from time
before_side time from tick order side = by (nat_lt tick time) (nat_lt from time) refl refl side
  where
    by : (a b : Bool) → nat_lt tick time ≡ a → nat_lt from time ≡ b → (time ≤ from) ⊎ (tick < time)
        → a ≡ b
    by true true ea eb side = refl
    by false false ea eb side = refl
    by true false ea eb (inl low) =
        absurd (let high : tick < time = grind (arith, nat_tests) in omega (arith, high, low, order))
    by true false ea eb (inr high) =
        absurd (let low : time ≤ from = grind (arith, nat_tests) in omega (arith, low, high, order))
    by false true ea eb (inl low) =
        absurd (let high : from < time = grind (arith, nat_tests) in omega (arith, high, low))
    by false true ea eb (inr high) =
        absurd (let low : time ≤ tick = grind (arith, nat_tests) in omega (arith, low, high))

-- the live cues of a region stay
pub live_still : (epoch : Epoch) (id from tick : ℕ) → from ≤ tick → AreStill from tick (ticks_of epoch)
    → live_cues epoch.cues id tick ≡ live_cues epoch.cues id from
live_still epoch id from tick order still =
    filter_agree (λ (cue : Cue). (cue.region == id) && is_live tick cue)
    (λ (cue : Cue). (cue.region == id) && is_live from cue) epoch.cues
    (λ k d within. same (get_or epoch.cues k d) (All-contains_itself epoch.cues k d within))
  where
    same : (cue : Cue) → Contains epoch.cues cue
        → ((cue.region == id) && is_live tick cue) ≡ ((cue.region == id) && is_live from cue)
    same cue there =
        (let start = same_side cue.start from tick order
        (all_at (λ time. (time ≤ from) ⊎ (tick < time)) (ticks_of epoch) cue.start still
        (cue_start epoch cue there)) in
        let end =
        before_side cue.end from tick order
        (all_at (λ time. (time ≤ from) ⊎ (tick < time)) (ticks_of epoch) cue.end still
        (cue_end epoch cue there)) in
        λ i. (cue.region == id) && (start i && end i))

-- so does the colour of each entry
pub colour_still : (epoch : Epoch) (clut : ℕ) (depth : Depth) (entry from tick : ℕ) → from ≤ tick
    → AreStill from tick (ticks_of epoch)
    → authored_colour epoch.colours clut depth entry tick ≡ authored_colour epoch.colours clut depth entry from
colour_still epoch clut depth entry from tick order still =
    ap (λ rows. colour_or_default depth entry (latest_row rows))
    (filter_agree (sets_entry clut depth entry tick) (sets_entry clut depth entry from) epoch.colours
    (λ k d within. same (get_or epoch.colours k d) (All-contains_itself epoch.colours k d within)))
  where
    same : (row : ColourRow) → Contains epoch.colours row
        → sets_entry clut depth entry tick row ≡ sets_entry clut depth entry from row
    same row there =
        (let side = same_side row.tick from tick order
        (all_at (λ time. (time ≤ from) ⊎ (tick < time)) (ticks_of epoch) row.tick still
        (row_tick epoch row there)) in
        λ i. (row.clut == clut) && (bits_of row.depth == bits_of depth) && (row.entry == entry) && side i)

-- ---- the epoch

last_passing : (p : Epoch → Bool) (epochs : List Epoch) (place : ℕ) (epoch : Epoch)
    → slice_get epochs place ≡ Some epoch → p epoch ≡ true
    → ((later : ℕ) (other : Epoch) → place < later → slice_get epochs later ≡ Some other
    → p other ≡ false)
    → last_given (λ (e : Epoch). cond (p e) (Some e) None) epochs ≡ Some epoch
last_passing p [] place epoch is pass later = absurd (cc)
last_passing p (first ∷ epochs) zero epoch is pass later =
    (let same : first ≡ epoch = cc in
    let none = nothing epochs (λ k other e. later (suc k) other (omega arith) e) in
    (λ i. option_or (none i) (cond (p (same i)) (Some (same i)) None)) ∙ ap (λ b. cond b (Some epoch) None) pass)
  where
    nothing : (rest : List Epoch)
        → ((k : ℕ) (other : Epoch) → slice_get rest k ≡ Some other → p other ≡ false)
        → last_given (λ (e : Epoch). cond (p e) (Some e) None) rest ≡ None
    nothing [] none = refl
    nothing (e ∷ rest) none =
        (λ i. option_or (nothing rest (λ k other is. none (suc k) other is) i) (cond (none 0 e refl i) (Some e) None))
last_passing p (first ∷ epochs) (suc place) epoch is pass later =
    ap (λ found. option_or found (cond (p first) (Some first) None))
    (last_passing p epochs place epoch is pass (λ k other after e. later (suc k) other (omega (arith, after)) e))

-- the epoch of a tick is the last one that has started by then
pub epoch_is : (epochs : List Epoch) (tick place : ℕ) (epoch : Epoch) → IsEpochAt epochs tick place epoch
    → epoch_at epochs tick ≡ Some epoch
epoch_is epochs tick place epoch at =
    find_turned (λ (e : Epoch). nat_le e.start tick) epochs
    ∙ last_passing (λ (e : Epoch). nat_le e.start tick) epochs place epoch at.found
    (let started = at.started in grind (arith, nat_tests))
    (λ later other after is. (let high = at.last later other after is in grind (arith, nat_tests)))

-- the epoch stays
pub epoch_still : (epochs : List Epoch) (from tick place : ℕ) (epoch : Epoch) → from ≤ tick
    → AreStill from tick (named_ticks epochs) → IsEpochAt epochs from place epoch
    → IsEpochAt epochs tick place epoch
epoch_still epochs from tick place epoch order still at =
    record {
      found = at.found;
      started = (let started = at.started in omega (arith, started, order));
      last =
          λ later other after
          is. (let high = at.last later other after is in by other.start
          (all_at (λ time. (time ≤ from) ⊎ (tick < time)) (named_ticks epochs) other.start still
          (piece_there ticks_of epochs other other.start (there_at epochs later other is) (0, omega arith, refl)))
          high);
    }
  where
    by : (start : ℕ) → (start ≤ from) ⊎ (tick < start) → from < start → tick < start
    by start (inl low) high = absurd (omega (arith, low, high))
    by start (inr late) high = late
