-- The ticks of packets between two samples, one after the other.
use Rattle.std.proofs.Common.{◌≡◌, ◌∙◌, ℕ, zero, suc, ◌+◌, ◌<◌, ◌≤◌, Bool, true, false, if◌then◌else◌, List, [], ◌∷◌, ◌++◌, length, replicate, Option, Some, None, nat_le, append-nil, append_assoc, refl, sym, ap, arith}
use Rattle.std.proofs.lemmas.Bool.Decides.{nat_tests}
use Rattle.pcr_clock.specs.Arrivals.{IsBehind, IsClockAt, last_tick, next_sample, spread_between, tick_between, tick_of_time, ticks_behind, ticks_of, ticks_of_run}
use Rattle.pcr_clock.specs.Samples.{time_behind, times_behind}
use Rattle.pcr_clock.specs.declared.arrival.NextSample.{NextSample}
use Rattle.pcr_clock.specs.declared.arrival.TheConstants.{MOST_BETWEEN}
use Rattle.pcr_clock.proofs.SpreadLaws.{spread_first, spread_last, spread_next, time_rises}

-- packets without a sample
abbrev pub none_of : ℕ → List (Option ℕ)
none_of count = replicate count None

-- ---- up to a sample

next_is : (behind held time : ℕ) (times : List (Option ℕ))
    → next_sample behind (none_of held ++ Some time ∷ times)
    ≡ Some (record { behind = behind + held; time = time })
next_is behind zero time times = ap (λ (n : ℕ). Some (record { behind = n; time = time }))
    (let same : behind ≡ behind + 0 = omega arith in same)
next_is behind (suc held) time times = next_is (behind + 1) held time times
    ∙ ap (λ (n : ℕ). Some (record { behind = n; time = time }))
    (let same : behind + 1 + held ≡ behind + suc held = omega arith in same)

pub ticks_to_sample : (last : Option ℕ) (since held time : ℕ) (times : List (Option ℕ))
    → ticks_behind last since (none_of held ++ Some time ∷ times)
    ≡ ticks_of_run last since held (Some (record { behind = since + held; time = time }))
    ++ tick_of_time time ∷ ticks_behind (Some time) 1 times
ticks_to_sample last since zero time times = refl
ticks_to_sample last since (suc held) time times =
    let same : since + 1 + held ≡ since + suc held = omega arith in
    ap (λ (next : Option NextSample). tick_between last since next
    ∷ ticks_behind last (since + 1) (none_of held ++ Some time ∷ times)) (next_is (since + 1) held time times)
    ∙ ap (λ (rest : List ℕ). tick_between last since (Some (record { behind = since + 1 + held; time = time }))
    ∷ rest) (ticks_to_sample last (since + 1) held time times)
    ∙ ap (λ (n : ℕ). tick_between last since (Some (record { behind = n; time = time }))
    ∷ (ticks_of_run last (since + 1) held (Some (record { behind = n; time = time }))
    ++ tick_of_time time ∷ ticks_behind (Some time) 1 times)) same

-- ---- where the next sample is too far

not_le : (a b : ℕ) → b < a → nat_le a b ≡ false
not_le a b h = grind (arith, nat_tests)

next_far : (last : Option ℕ) (since behind held : ℕ) (times : List (Option ℕ)) → MOST_BETWEEN < behind + held
    → tick_between last since (next_sample behind (none_of held ++ times)) ≡ last_tick last
next_far last since behind (suc held) times far = next_far last since (behind + 1) held times (omega (arith, far))
next_far last since behind zero [] far = refl
next_far last since behind zero (None ∷ times) far = next_far last since (behind + 1) 0 times (omega (arith, far))
next_far last since behind zero (Some time ∷ times) far =
    ap (λ (b : Bool). if b then spread_between last since (record { behind = behind; time = time }) else last_tick last)
    (not_le behind MOST_BETWEEN (omega (arith, far)))

pub ticks_where_far : (last : Option ℕ) (since held : ℕ) (times : List (Option ℕ)) → MOST_BETWEEN < since + held
    → ticks_behind last since (none_of held ++ times)
    ≡ ticks_of_run last since held None ++ ticks_behind last (since + held) times
ticks_where_far last since zero times far = ap (λ (n : ℕ). ticks_behind last n times)
    (let same : since ≡ since + 0 = omega arith in same)
ticks_where_far last since (suc held) times far =
    ap (λ (tick : ℕ). tick ∷ ticks_behind last (since + 1) (none_of held ++ times))
    (next_far last since (since + 1) held times (omega (arith, far)))
    ∙ ap (λ (rest : List ℕ). last_tick last ∷ rest) (ticks_where_far last (since + 1) held times (omega (arith, far)))
    ∙ ap (λ (n : ℕ). last_tick last ∷ (ticks_of_run last (since + 1) held None ++ ticks_behind last n times))
    (let same : since + 1 + held ≡ since + suc held = omega arith in same)

-- ---- where no sample comes

none_next : (behind held : ℕ) → next_sample behind (none_of held) ≡ None
none_next behind zero = refl
none_next behind (suc held) = none_next (behind + 1) held

pub ticks_to_end : (last : Option ℕ) (since held : ℕ)
    → ticks_behind last since (none_of held) ≡ ticks_of_run last since held None
ticks_to_end last since zero = refl
ticks_to_end last since (suc held) =
    ap (λ (next : Option NextSample). tick_between last since next ∷ ticks_behind last (since + 1) (none_of held))
    (none_next (since + 1) held)
    ∙ ap (λ (rest : List ℕ). last_tick last ∷ rest) (ticks_to_end last (since + 1) held)

-- ---- ticks do not fall

pub between_rises : (last : Option ℕ) (since : ℕ) (next : Option NextSample) → IsBehind last next
    → tick_between last since next ≤ tick_between last (since + 1) next
between_rises last since None is = omega arith
between_rises None since (Some next) is = omega arith
between_rises (Some before) since (Some next) is = by (nat_le next.behind MOST_BETWEEN)
  where
    by : (b : Bool) → (if b then spread_between (Some before) since next else tick_of_time before)
        ≤ (if b then spread_between (Some before) (since + 1) next else tick_of_time before)
    by true = spread_next before next.time since next.behind is.1
    by false = omega arith

pub between_first : (last : Option ℕ) (since : ℕ) (next : Option NextSample) → IsBehind last next
    → last_tick last ≤ tick_between last since next
between_first last since None is = omega arith
between_first None since (Some next) is = omega arith
between_first (Some before) since (Some next) is = by (nat_le next.behind MOST_BETWEEN)
  where
    by : (b : Bool) → tick_of_time before
        ≤ (if b then spread_between (Some before) since next else tick_of_time before)
    by true = spread_first before next.time since next.behind is.0 is.1
    by false = omega arith

pub between_last : (last : Option ℕ) (since : ℕ) (next : NextSample) → IsBehind last (Some next) → since ≤ next.behind
    → tick_between last since (Some next) ≤ tick_of_time next.time
between_last None since next is within = by (nat_le next.behind MOST_BETWEEN)
  where
    by : (b : Bool) → (if b then tick_of_time next.time else 0) ≤ tick_of_time next.time
    by true = omega arith
    by false = omega arith
between_last (Some before) since next is within = by (nat_le next.behind MOST_BETWEEN)
  where
    by : (b : Bool) → (if b then spread_between (Some before) since next else tick_of_time before)
        ≤ tick_of_time next.time
    by true = spread_last before next.time since next.behind is.0 is.1 within
    by false = time_rises before next.time is.0

-- ---- the clock behind packets

times_to_sample : (last : Option ℕ) (held sample : ℕ) (more : List (Option ℕ))
    → times_behind last (none_of held ++ Some sample ∷ more)
    ≡ none_of held ++ Some (time_behind last sample) ∷ times_behind (Some (time_behind last sample)) more
times_to_sample last zero sample more = refl
times_to_sample last (suc held) sample more =
    ap (λ (times : List (Option ℕ)). None ∷ times) (times_to_sample last held sample more)

times_on : (last : Option ℕ) (held : ℕ) (more : List (Option ℕ))
    → times_behind last (none_of held ++ more) ≡ none_of held ++ times_behind last more
times_on last zero more = refl
times_on last (suc held) more = ap (λ (times : List (Option ℕ)). None ∷ times) (times_on last held more)

pub clock_begins : IsClockAt [] [] None 0
clock_begins = record { goes = λ more. refl }

-- a packet with a sample comes behind some without one
pub clock_to_sample : (samples : List (Option ℕ)) (ticks : List ℕ) (last : Option ℕ) (since held sample : ℕ)
    → IsClockAt samples ticks last since
    → IsClockAt (samples ++ (none_of held ++ Some sample ∷ []))
    (ticks ++ (ticks_of_run last since held
    (Some (record { behind = since + held; time = time_behind last sample }))
    ++ tick_of_time (time_behind last sample) ∷ [])) (Some (time_behind last sample)) 1
clock_to_sample samples ticks last since held sample is = record {
  goes = λ more.
      let time = time_behind last sample in
      let run = ticks_of_run last since held (Some (record { behind = since + held; time = time })) in
      let rest = ticks_behind (Some time) 1 (times_behind (Some time) more) in
      ap ticks_of (append_assoc samples (none_of held ++ Some sample ∷ []) more
      ∙ ap (λ (others : List (Option ℕ)). samples ++ others) (append_assoc (none_of held) (Some sample ∷ []) more))
      ∙ is.goes (none_of held ++ Some sample ∷ more)
      ∙ ap (λ (times : List (Option ℕ)). ticks ++ ticks_behind last since times)
      (times_to_sample last held sample more)
      ∙ ap (λ (others : List ℕ). ticks ++ others)
      (ticks_to_sample last since held time (times_behind (Some time) more)
      ∙ sym (append_assoc run (tick_of_time time ∷ []) rest))
      ∙ sym (append_assoc ticks (run ++ tick_of_time time ∷ []) rest);
}

-- packets without a sample are so many that the next one is too far
pub clock_where_far : (samples : List (Option ℕ)) (ticks : List ℕ) (last : Option ℕ) (since held : ℕ)
    → MOST_BETWEEN < since + held → IsClockAt samples ticks last since
    → IsClockAt (samples ++ none_of held) (ticks ++ ticks_of_run last since held None) last (since + held)
clock_where_far samples ticks last since held far is = record {
  goes = λ more.
      let rest = ticks_behind last (since + held) (times_behind last more) in
      ap ticks_of (append_assoc samples (none_of held) more)
      ∙ is.goes (none_of held ++ more)
      ∙ ap (λ (times : List (Option ℕ)). ticks ++ ticks_behind last since times) (times_on last held more)
      ∙ ap (λ (others : List ℕ). ticks ++ others) (ticks_where_far last since held (times_behind last more) far)
      ∙ sym (append_assoc ticks (ticks_of_run last since held None) rest);
}

-- the stream ends behind packets without a sample
pub clock_to_end : (samples : List (Option ℕ)) (ticks : List ℕ) (last : Option ℕ) (since held : ℕ)
    → IsClockAt samples ticks last since
    → ticks_of (samples ++ none_of held) ≡ ticks ++ ticks_of_run last since held None
clock_to_end samples ticks last since held is =
    is.goes (none_of held)
    ∙ ap (λ (others : List (Option ℕ)). ticks ++ ticks_behind last since others)
    (ap (times_behind last) (sym (append-nil (none_of held))) ∙ times_on last held []
    ∙ append-nil (none_of held))
    ∙ ap (λ (others : List ℕ). ticks ++ others) (ticks_to_end last since held)

-- ---- runs

pub run_count : (last : Option ℕ) (since held : ℕ) (next : Option NextSample)
    → length (ticks_of_run last since held next) ≡ held
run_count last since zero next = refl
run_count last since (suc held) next = ap suc (run_count last (since + 1) held next)

-- one packet more
pub run_more : (last : Option ℕ) (since held : ℕ) (next : Option NextSample)
    → ticks_of_run last since (suc held) next
    ≡ ticks_of_run last since held next ++ tick_between last (since + held) next ∷ []
run_more last since zero next = ap (λ (n : ℕ). tick_between last n next ∷ [])
    (let same : since ≡ since + 0 = omega arith in same)
run_more last since (suc held) next =
    ap (λ (rest : List ℕ). tick_between last since next ∷ rest) (run_more last (since + 1) held next
    ∙ ap (λ (n : ℕ). ticks_of_run last (since + 1) held next ++ tick_between last n next ∷ [])
    (let same : since + 1 + held ≡ since + suc held = omega arith in same))
