-- The ticks of the generated script.
use Rattle.std.proofs.Common.{◌≡◌, ◌≢◌, ◌⊎◌, inl, inr, ℕ, ◌+◌, ◌-◌, ◌*◌, ◌/◌, ◌%◌, ◌==◌, ◌<◌, ◌≤◌, min, Bool, true, false, List, [], ◌∷◌, ◌++◌, map, length, get_or, All, sym, ap, subst, refl, arith}
use Rattle.std.specs.List.{flat_map, range_with_len, AllZip}
use Rattle.std.proofs.lemmas.List.Elements.{All-nil, All-cons, All-append}
use Rattle.std.proofs.lemmas.Bool.Decides.{nat_tests}
use Rattle.cue_records.specs.declared.row_values.ColourRow.{ColourRow}
use Rattle.cue_list.specs.declared.epoch.Cue.{Cue}
use Rattle.cue_list.specs.declared.epoch.Epoch.{Epoch}
use Rattle.cue_list.specs.Sound.{ticks_of, ticks_of_cue, AreTicksApart}
use Rattle.generated_script.specs.Generated.{generated_start, generated_length, IsGeneratedCue, IsGeneratedEpoch}
use Rattle.generated_script.proofs.ListLaws.{item_at, item_count, all_pieces}

-- a tick of the script: a whole number of seconds after the first one, or 36,000 or 63,000 ticks more
pub record IsGeneratedTick (tick : ℕ) : Type 0 where
  pub second : ℕ
  pub rest : ℕ
  pub is : tick ≡ 180000 + 90000 * second + rest
  pub one : (rest ≡ 0) ⊎ ((rest ≡ 36000) ⊎ (rest ≡ 63000))

-- a cue that goes on into the second one after it
pub record IsLong (k : ℕ) : Type 0 where
  pub long : generated_length k ≡ 216000
  pub odd : k % 2 ≡ 1
  pub inside : k % 16 ≢ 15

is_odd : (k : ℕ) → (k % 2 == 1) ≡ true → k % 2 ≡ 1
is_odd k h = grind (arith, nat_tests)

is_inside : (k : ℕ) → (k % 16 == 15) ≡ false → k % 16 ≢ 15
is_inside k h = λ e. grind (arith, nat_tests)

length_by : (k : ℕ) (odd last : Bool) → (k % 2 == 1) ≡ odd → (k % 16 == 15) ≡ last → IsLong k
    ⊎ (generated_length k ≡ 63000)
length_by k false last a b = inr (rw a refl)
length_by k true true a b = inr (rw (a, b) refl)
length_by k true false a b = inl (record { long = rw (a, b) refl; odd = is_odd k a; inside = is_inside k b })

pub length_of : (k : ℕ) → IsLong k ⊎ (generated_length k ≡ 63000)
length_of k = length_by k (k % 2 == 1) (k % 16 == 15) refl refl

-- an epoch's cues end before the next epoch starts
pub end_within : (e p : ℕ) → p < 16
    → generated_start (16 * e + p) + generated_length (16 * e + p) ≤ 180000 + 1440000 * (e + 1)
end_within e p h = within (length_of (16 * e + p))
  where
    within : IsLong (16 * e + p) ⊎ (generated_length (16 * e + p) ≡ 63000)
        → generated_start (16 * e + p) + generated_length (16 * e + p) ≤ 180000 + 1440000 * (e + 1)
    within (inl long) =
        let size = long.long in
        let odd = long.odd in
        let inside = long.inside in
        omega arith
    within (inr short) = omega arith

pub lasts : (k : ℕ) → (1 ≤ generated_length k) × (generated_length k ≤ 216000)
lasts k = within (length_of k)
  where
    within : IsLong k ⊎ (generated_length k ≡ 63000) → (1 ≤ generated_length k)
        × (generated_length k ≤ 216000)
    within (inl long) = let size = long.long in (omega arith, omega arith)
    within (inr short) = (omega arith, omega arith)

pub start_tick : (k : ℕ) → IsGeneratedTick (generated_start k)
start_tick k = record { second = k; rest = 0; is = omega arith; one = inl refl }

pub end_tick : (k : ℕ) → IsGeneratedTick (generated_start k + generated_length k)
end_tick k = tick (length_of k)
  where
    tick : IsLong k ⊎ (generated_length k ≡ 63000) → IsGeneratedTick (generated_start k + generated_length k)
    tick (inl long) =
        let size = long.long in record { second = k + 2; rest = 36000; is = omega arith; one = inr (inl refl) }
    tick (inr short) = record { second = k; rest = 63000; is = omega arith; one = inr (inr refl) }

far : (q q' r r' : ℕ) → 180000 + 90000 * q + r < 180000 + 90000 * q' + r' → (r ≡ 0)
    ⊎ ((r ≡ 36000) ⊎ (r ≡ 63000)) → (r' ≡ 0) ⊎ ((r' ≡ 36000) ⊎ (r' ≡ 63000))
    → 180000 + 90000 * q + r + 27000 ≤ 180000 + 90000 * q' + r'
far q q' r r' h (inl a) (inl b) = omega arith
far q q' r r' h (inl a) (inr (inl b)) = omega arith
far q q' r r' h (inl a) (inr (inr b)) = omega arith
far q q' r r' h (inr (inl a)) (inl b) = omega arith
far q q' r r' h (inr (inl a)) (inr (inl b)) = omega arith
far q q' r r' h (inr (inl a)) (inr (inr b)) = omega arith
far q q' r r' h (inr (inr a)) (inl b) = omega arith
far q q' r r' h (inr (inr a)) (inr (inl b)) = omega arith
far q q' r r' h (inr (inr a)) (inr (inr b)) = omega arith

-- two ticks of the script that differ are at least 27,000 apart
pub ticks_far : (a b : ℕ) → IsGeneratedTick a → IsGeneratedTick b → a < b → a + 27000 ≤ b
ticks_far a b p q h =
    let first = p.is in
    let second = q.is in
    let apart = far p.second q.second p.rest q.rest (omega arith) p.one q.one in
    omega arith

pub ticks_apart : (a b : ℕ) → IsGeneratedTick a → IsGeneratedTick b → AreTicksApart a b
ticks_apart a b p q = by_order (order a b)
  where
    order : (m n : ℕ) → (m < n) ⊎ ((n < m) ⊎ (m ≡ n))
    order m n = grind arith

    by_order : (a < b) ⊎ ((b < a) ⊎ (a ≡ b)) → AreTicksApart a b
    by_order (inl less) = let apart = ticks_far a b p q less in inr (inl (omega arith))
    by_order (inr (inl more)) = let apart = ticks_far b a q p more in inr (inr (omega arith))
    by_order (inr (inr same)) = inl same

-- ---- the ticks of an epoch

-- the cue at a place of an epoch
pub cue_of : (number e : ℕ) (epoch : Epoch) → IsGeneratedEpoch number e epoch → (place : ℕ) (other : Cue)
    → place < length epoch.cues → IsGeneratedCue (16 * e + place) (get_or epoch.cues place other)
cue_of number e epoch is place other h =
    let count = item_count IsGeneratedCue (16 * e) (min number (16 * e + 16) - 16 * e) epoch.cues is.cues in
    item_at IsGeneratedCue (16 * e) (min number (16 * e + 16) - 16 * e) epoch.cues place other is.cues (omega arith)

pub cue_count : (number e : ℕ) (epoch : Epoch) → IsGeneratedEpoch number e epoch
    → length epoch.cues ≡ min number (16 * e + 16) - 16 * e
cue_count number e epoch is = item_count IsGeneratedCue (16 * e) (min number (16 * e + 16) - 16 * e) epoch.cues is.cues

-- what holds of an epoch's start, and of the start and the end of each cue, holds of all its ticks
pub epoch_ticks : (P : ℕ → Type 0) (epoch : Epoch) → epoch.colours ≡ [] → P epoch.start
    → All (λ (cue : Cue). P cue.start × P cue.end) epoch.cues → All P (ticks_of epoch)
epoch_ticks P epoch none start cues =
    All-cons P epoch.start (map (λ (row : ColourRow). row.tick) epoch.colours ++ flat_map ticks_of_cue epoch.cues)
    start
    (All-append P (map (λ (row : ColourRow). row.tick) epoch.colours) (flat_map ticks_of_cue epoch.cues)
    (subst (λ (rows : List ColourRow). All P (map (λ (row : ColourRow). row.tick) rows)) (sym none) (All-nil P))
    (all_pieces P ticks_of_cue epoch.cues
    (λ i d h. let here = cues i d h in All-cons P (get_or epoch.cues i d).start
    ((get_or epoch.cues i d).end ∷ []) here.0 (All-cons P (get_or epoch.cues i d).end [] here.1 (All-nil P)))))

pub epoch_generated : (number e : ℕ) (epoch : Epoch) → IsGeneratedEpoch number e epoch
    → All IsGeneratedTick (ticks_of epoch)
epoch_generated number e epoch is = epoch_ticks IsGeneratedTick epoch is.colours first each
  where
    first : IsGeneratedTick epoch.start
    first = let start = is.start in record { second = 16 * e; rest = 0; is = omega arith; one = inl refl }

    each : All (λ (cue : Cue). IsGeneratedTick cue.start × IsGeneratedTick cue.end) epoch.cues
    each i d h =
        let cue = cue_of number e epoch is i d h in (
          subst IsGeneratedTick (sym (ap (λ (c : Cue). c.start) cue)) (start_tick (16 * e + i)),
          subst IsGeneratedTick
              (sym (ap (λ (c : Cue). c.end) cue)) (end_tick (16 * e + i)),
        )

-- the epoch at a place
pub epoch_at : (number : ℕ) (epochs : List Epoch) (place : ℕ) (other : Epoch)
    → AllZip (IsGeneratedEpoch number) (range_with_len 0 ((number + 15) / 16)) epochs → place < length epochs
    → IsGeneratedEpoch number place (get_or epochs place other)
epoch_at number epochs place other are h =
    let count = item_count (IsGeneratedEpoch number) 0 ((number + 15) / 16) epochs are in
    let same : 0 + place ≡ place = omega arith in
    subst (λ (e : ℕ). IsGeneratedEpoch number e (get_or epochs place other)) same
    (item_at (IsGeneratedEpoch number) 0 ((number + 15) / 16) epochs place other are (omega arith))

pub ticks_generated : (number : ℕ) (epochs : List Epoch)
    → AllZip (IsGeneratedEpoch number) (range_with_len 0 ((number + 15) / 16)) epochs
    → All IsGeneratedTick (flat_map ticks_of epochs)
ticks_generated number epochs are =
    let count = item_count (IsGeneratedEpoch number) 0 ((number + 15) / 16) epochs are in
    all_pieces IsGeneratedTick ticks_of epochs
    (λ i d h. epoch_generated number i (get_or epochs i d) (epoch_at number epochs i d are h))
