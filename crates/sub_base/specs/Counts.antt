-- Counts that rise up to the greatest number of 64 bits and stay there.
use Rattle.std.specs.Prelude.{◌≡◌, ℕ, ◌+◌, ◌-◌, ◌^◌, ◌<◌, ◌≤◌, ◌⊎◌, min, max, Result, MatchResult}

-- the greatest count
abbrev pub greatest_count : ℕ
greatest_count = 2 ^ 64 - 1

-- the count after n more: it rises up to the greatest count, and never falls
abbrev pub counted : ℕ → ℕ → ℕ
counted count n = max count (min (count + n) greatest_count)

-- the count rose, or stands where it can rise no more
abbrev pub HasRisen : ℕ → ℕ → Type 0
HasRisen before now = (before < now) ⊎ (greatest_count ≤ now)

-- more than that many were counted, or the count stands where it can rise no more
abbrev pub HasRisenPast : ℕ → ℕ → ℕ → Type 0
HasRisenPast limit before now = (before + limit < now) ⊎ (greatest_count ≤ now)

-- at `Ok(n)` n more were counted, and at an `Err` none
abbrev pub CountsOnOk : {E : Type 0} → ℕ → ℕ → Result ℕ E → Type 0
CountsOnOk before now r = MatchResult r (λ n. now ≡ counted before n) (λ _. now ≡ before)

-- at an `Ok` no fault was counted, and at an `Err` one
abbrev pub FaultsCount : {A E : Type 0} → ℕ → ℕ → Result A E → Type 0
FaultsCount before now r = MatchResult r (λ _. now ≡ before) (λ _. now ≡ counted before 1)
