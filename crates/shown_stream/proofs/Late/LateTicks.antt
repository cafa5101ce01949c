-- The ticks at which a stream that is entered late shows what the whole one does: those from the time of its entry set
-- on.
use Rattle.std.proofs.Common.{◌≡◌, ◌∙◌, ℕ, zero, suc, ◌<◌, ◌≤◌, Bool, true, false, ◌&&◌, cond, List, [], ◌∷◌, ◌++◌, length, Some, refl, sym, ap, subst, arith}
use Rattle.std.specs.Prelude.{nat_le}
use Rattle.std.specs.List.{AllByRecursion, list_all}
use Rattle.std.proofs.lemmas.Bool.Decides.{nat_tests}
use Rattle.std.proofs.lemmas.List.Elements.{recursion_from_All, All-from_recursion}
use Rattle.decoder_model.specs.Streams.{SentSet, is_from, entry_set, IsReceived, IsGoodTick, is_received_at}
use Rattle.shown_stream.specs.GoodTicks.{late_sendings}

-- ---- sets in order

-- sets stand in order: all packets of a set are in the stream, where those of one set stand from a place on so do those
-- of all later ones, and no later one has an earlier time
pub data AreInOrder (count : ℕ) : List SentSet → Type 0 where
  no_set : AreInOrder count []
  set_first : {set : SentSet} {sets : List SentSet} → AllByRecursion (λ place. place < count) set.places
      → ((j : ℕ) → is_from j set ≡ true
      → AllByRecursion (λ (later : SentSet). is_from j later ≡ true) sets)
      → AllByRecursion (λ (later : SentSet). set.time ≤ later.time) sets → AreInOrder count sets
      → AreInOrder count (set ∷ sets)

-- ---- what is received

there_from : (j : ℕ) (stream : List (List ℕ)) (place : ℕ) → j ≤ place → place < length stream
    → is_received_at (late_sendings j stream) place ≡ true
there_from j [] place from within = absurd (omega arith)
there_from zero (first ∷ stream) zero from within = refl
there_from zero (first ∷ stream) (suc place) from within = there_from zero stream place (omega arith) (omega arith)
there_from (suc j) (first ∷ stream) zero from within = absurd (omega arith)
there_from (suc j) (first ∷ stream) (suc place) from within = there_from j stream place (omega arith) (omega arith)

missed_before : (j : ℕ) (stream : List (List ℕ)) (place : ℕ) → place < j
    → is_received_at (late_sendings j stream) place ≡ false
missed_before zero stream place before = absurd (omega arith)
missed_before (suc j) [] place before = refl
missed_before (suc j) (first ∷ stream) zero before = refl
missed_before (suc j) (first ∷ stream) (suc place) before = missed_before j stream place (omega arith)

-- a set that stands from the entry on is received
received_by : (j : ℕ) (stream : List (List ℕ)) (places : List ℕ)
    → AllByRecursion (λ place. place < length stream) places → list_all (λ at. nat_le j at) places ≡ true
    → AllByRecursion (λ place. is_received_at (late_sendings j stream) place ≡ true) places
received_by j stream [] within from = tt
received_by j stream (place ∷ places) within from =
    by (nat_le j place) refl (received_by j stream places within.1) from
  where
    by : (here : Bool) → nat_le j place ≡ here
        → (list_all (λ at. nat_le j at) places ≡ true
        → AllByRecursion (λ place. is_received_at (late_sendings j stream) place ≡ true) places)
        → (here && list_all (λ at. nat_le j at) places) ≡ true
        → AllByRecursion (λ place. is_received_at (late_sendings j stream) place ≡ true) (place ∷ places)
    by true is rest e = (there_from j stream place (grind (arith, nat_tests)) within.0, rest e)
    by false is rest e = absurd (cc)

-- and one that is received stands from there on
from_there : (j : ℕ) (stream : List (List ℕ)) (places : List ℕ)
    → AllByRecursion (λ place. is_received_at (late_sendings j stream) place ≡ true) places
    → list_all (λ at. nat_le j at) places ≡ true
from_there j stream [] come = refl
from_there j stream (place ∷ places) come = by (nat_le j place) refl (from_there j stream places come.1)
  where
    by : (here : Bool) → nat_le j place ≡ here → list_all (λ at. nat_le j at) places ≡ true
        → (nat_le j place && list_all (λ at. nat_le j at) places) ≡ true
    by true is rest = ap (λ first. first && list_all (λ at. nat_le j at) places) is ∙ rest
    by false is rest =
        let early : place
        < j = grind (arith, nat_tests) in let out = missed_before j stream place early in let in_it = come.0 in absurd
        (cc)

-- ---- good ticks

is_entry : ℕ → SentSet → Bool
is_entry j set = set.is_entry && is_from j set

all_received : (j tick : ℕ) (stream : List (List ℕ)) (sets : List SentSet) → AreInOrder (length stream) sets
    → AllByRecursion (λ (set : SentSet). is_from j set ≡ true) sets
    → AllByRecursion (λ (set : SentSet). set.time ≤ tick → IsReceived (late_sendings j stream) set) sets
all_received j tick stream sets (no_set) from = tt
all_received j tick stream sets (set_first {set = set} {sets = later} within onward times order) from = (
  λ come. All-from_recursion (λ place. is_received_at (late_sendings j stream) place ≡ true) set.places
      (received_by j stream set.places within from.0),
  all_received j tick stream later order from.1,
)

-- from the entry set's time on a tick is good
pub good_from_entry : (j tick : ℕ) (stream : List (List ℕ)) (sets : List SentSet) (entry : SentSet)
    → AreInOrder (length stream) sets → entry_set j sets ≡ Some entry → entry.time ≤ tick
    → IsGoodTick sets (late_sendings j stream) tick
good_from_entry j tick stream sets entry (no_set) found come = absurd (cc)
good_from_entry j tick stream sets entry (set_first {set = set} {sets = later} within onward times order) found come =
    by set.is_entry (is_from j set) refl refl found
    (λ behind. good_from_entry j tick stream later entry order behind come)
  where
    by : (entry_state from : Bool) → set.is_entry ≡ entry_state → is_from j set ≡ from
        → cond (entry_state && from) (Some set) (entry_set j later) ≡ Some entry
        → (entry_set j later ≡ Some entry → IsGoodTick later (late_sendings j stream) tick)
        → IsGoodTick (set ∷ later) (late_sendings j stream) tick
    by true true begins from e behind =
        let same : set ≡ entry = cc in
        record {
          before = [];
          entry = set;
          after = later;
          placed = refl;
          begins = begins;
          come = subst (λ (first : SentSet). first.time ≤ tick) (sym same) come;
          whole =
              All-from_recursion (λ (one : SentSet). one.time ≤ tick → IsReceived (late_sendings j stream) one)
              (set ∷ later)
              (all_received j tick stream (set ∷ later) (set_first within onward times order) (from, onward j from));
        }
    by true false begins from e behind =
        let good = behind e in
        record {
          before = set
              ∷ good.before;
          entry = good.entry;
          after = good.after;
          placed = ap (λ rest. set ∷ rest) good.placed;
          begins = good.begins;
          come = good.come;
          whole = good.whole;
        }
    by false true begins from e behind =
        let good = behind e in
        record {
          before = set
              ∷ good.before;
          entry = good.entry;
          after = good.after;
          placed = ap (λ rest. set ∷ rest) good.placed;
          begins = good.begins;
          come = good.come;
          whole = good.whole;
        }
    by false false begins from e behind =
        let good = behind e in
        record {
          before = set
              ∷ good.before;
          entry = good.entry;
          after = good.after;
          placed = ap (λ rest. set ∷ rest) good.placed;
          begins = good.begins;
          come = good.come;
          whole = good.whole;
        }

pub at_seam : {X : Type 0} (P : X → Type 0) (xs : List X) (x : X) (ys : List X)
    → AllByRecursion P (xs ++ x ∷ ys) → P x
at_seam P [] x ys all = all.0
at_seam P (first ∷ xs) x ys all = at_seam P xs x ys all.1

first_entry : (j tick count : ℕ) (before : List SentSet) (entry : SentSet) (after : List SentSet)
    → AreInOrder count (before ++ entry ∷ after) → entry.is_entry ≡ true → is_from j entry ≡ true
    → entry.time ≤ tick
    → (first : SentSet) × (entry_set j (before ++ entry ∷ after) ≡ Some first) × (first.time ≤ tick)
first_entry j tick count [] entry after order begins from come = (
  entry,
  ap (λ b. cond (b && is_from j entry) (Some entry) (entry_set j after)) begins
      ∙ ap (λ b. cond b (Some entry) (entry_set j after)) from,
  come,
)
first_entry j tick count (set ∷ before) entry after (set_first within onward times order) begins from come =
    by (set.is_entry && is_from j set) refl (first_entry j tick count before entry after order begins from come)
  where
    by : (is_it : Bool) → (set.is_entry && is_from j set) ≡ is_it → (first : SentSet)
        × (entry_set j (before ++ entry ∷ after) ≡ Some first) × (first.time ≤ tick)
        → (first : SentSet) × (entry_set j ((set ∷ before) ++ entry ∷ after) ≡ Some first)
        × (first.time ≤ tick)
    by true e behind =
        let earlier : set.time ≤ entry.time =
        at_seam (λ (later : SentSet). set.time ≤ later.time) before entry after times in
        (set, ap (λ b. cond b (Some set) (entry_set j (before ++ entry ∷ after))) e, omega arith)
    by false e behind =
        (behind.0, ap (λ b. cond b (Some set) (entry_set j (before ++ entry ∷ after))) e ∙ behind.1, behind.2)

-- and a good tick is not before it
pub entry_from_good : (j tick : ℕ) (stream : List (List ℕ)) (sets : List SentSet)
    → AreInOrder (length stream) sets → IsGoodTick sets (late_sendings j stream) tick
    → (entry : SentSet) × (entry_set j sets ≡ Some entry) × (entry.time ≤ tick)
entry_from_good j tick stream sets order good =
    let whole =
    recursion_from_All (λ (set : SentSet). set.time ≤ tick → IsReceived (late_sendings j stream) set)
    (good.entry ∷ good.after) good.whole in
    let received =
    recursion_from_All (λ place. is_received_at (late_sendings j stream) place ≡ true) good.entry.places
    (whole.0 good.come) in
    let from = from_there j stream good.entry.places received in
    let there =
    first_entry j tick (length stream) good.before good.entry good.after
    (subst (AreInOrder (length stream)) good.placed order) good.begins from good.come in
    (there.0, ap (entry_set j) good.placed ∙ there.1, there.2)
