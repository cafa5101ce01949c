-- Laws of ticks that are asked for on the command line.
use Rattle.std.proofs.Common.{◌≡◌, ◌∙◌, refl, sym, ap, subst, zero, suc, ℕ, ◌+◌, ◌-◌, ◌<◌, ◌≤◌, ◌&&◌, Bool, true, false, List, [], ◌∷◌, ◌++◌, length, get_or, take, drop, map, Option, Some, None, slice_get, append-nil, length-drop, arith}
use Rattle.std.specs.Prelude.{nat_le, option_and_then, unwrap_or}
use Rattle.std.specs.Bool.{if◌then◌else◌}
use Rattle.std.specs.List.Sorted.{IsStrictlyIncreasing}
use Rattle.std.proofs.lemmas.Bool.Decides.{nat_tests}
use Rattle.std.proofs.lemmas.List.{take_all, take_more, get_or-drop, map-append}
use Rattle.sub_base.specs.Number.{in_range, number_in, number_of}
use Rattle.command_words.specs.declared.ranges.TheConstants.{LATEST_TICK}
use Rattle.command_words.specs.Ticks.{are_rising, rises_from, is_above, tick_of, tick_or_zero}

-- the words from one on are this one and the others
words_from : (words : List (List ℕ)) (place : ℕ) (word : List ℕ) → slice_get words place ≡ Some word
    → drop place words ≡ word ∷ drop (place + 1) words
words_from [] place word there = absurd cc
words_from (first ∷ words) zero word there =
    let same : first ≡ word = cc in ap (λ (w : List ℕ). w ∷ words) same
words_from (first ∷ words) (suc place) word there =
    let more : suc place + 1 ≡ suc (place + 1) = omega arith in
    words_from words place word there ∙ ap (λ (n : ℕ). word ∷ drop n (first ∷ words)) (sym more)

module _ (before : Option ℕ) (words : List (List ℕ)) (place : ℕ) (word text : List ℕ)
    (number : Option ℕ) where
  first_word : place < length words → slice_get words place ≡ Some word → text ≡ word
      → number ≡ number_in 0 LATEST_TICK text →
      are_rising before (drop place words)
      ≡ rises_from before number (λ tick. are_rising tick (drop (place + 1) words))
  first_word inside there is_word is_number =
      ap (are_rising before) (words_from words place word there)
      ∙ ap (λ (tick : Option ℕ). rises_from before tick (λ tick. are_rising tick (drop (place + 1) words)))
      (sym (is_number ∙ ap (number_in 0 LATEST_TICK) is_word))

  pub rising_not : place < length words → slice_get words place ≡ Some word → text ≡ word
      → number ≡ number_in 0 LATEST_TICK text → number ≡ None →
      are_rising before (drop place words) ≡ false
  rising_not inside there is_word is_number none =
      first_word inside there is_word is_number
      ∙ ap (λ (tick : Option ℕ). rises_from before tick (λ tick. are_rising tick (drop (place + 1) words)))
      none

  pub rising_below : (tick : ℕ) → place < length words → slice_get words place ≡ Some word → text ≡ word
      → number ≡ number_in 0 LATEST_TICK text → number ≡ Some tick →
      is_above before tick ≡ false → are_rising before (drop place words) ≡ false
  rising_below tick inside there is_word is_number some below =
      first_word inside there is_word is_number
      ∙ ap (λ (t : Option ℕ). rises_from before t (λ t. are_rising t (drop (place + 1) words))) some
      ∙ rw below refl

  pub rising_more : (tick : ℕ) → place < length words → slice_get words place ≡ Some word → text ≡ word
      → number ≡ number_in 0 LATEST_TICK text → number ≡ Some tick →
      is_above before tick ≡ true
      → are_rising before (drop place words) ≡ are_rising (Some tick) (drop (place + 1) words)
  rising_more tick inside there is_word is_number some above =
      first_word inside there is_word is_number
      ∙ ap (λ (t : Option ℕ). rises_from before t (λ t. are_rising t (drop (place + 1) words))) some
      ∙ rw above refl

-- the word at a place
pub at_word : (words : List (List ℕ)) (place : ℕ) (word : List ℕ) → slice_get words place ≡ Some word
    → get_or words place [] ≡ word
at_word [] place word there = absurd cc
at_word (first ∷ words) zero word there = cc
at_word (first ∷ words) (suc place) word there = at_word words place word there

-- the ticks of some words, and with one more word
pub ticks_more : (words : List (List ℕ)) (first place tick : ℕ) → first ≤ place → place < length words
    → tick ≡ tick_or_zero (get_or words place []) →
    map tick_or_zero (take (place + 1 - first) (drop first words))
    ≡ map tick_or_zero (take (place - first) (drop first words)) ++ tick ∷ []
ticks_more words first place tick from inside is_tick =
    let next : place + 1 - first ≡ (place - first) + 1 = omega arith in
    let short : place - first < length (drop first words) = omega (arith, length-drop first words) in
    let whole : first + (place - first) ≡ place = omega arith in
    let at : get_or (drop first words) (place - first) [] ≡ get_or words place [] =
    get_or-drop first words (place - first) [] ∙ ap (λ (n : ℕ). get_or words n []) whole in
    let same : tick_or_zero (get_or (drop first words) (place - first) []) ≡ tick =
    ap tick_or_zero at ∙ sym is_tick in
    let front = take (place - first) (drop first words) in
    ap (λ (n : ℕ). map tick_or_zero (take n (drop first words))) next
    ∙ ap (map tick_or_zero) (take_more (drop first words) (place - first) [] short)
    ∙ map-append tick_or_zero front (get_or (drop first words) (place - first) [] ∷ [])
    ∙ ap (λ (t : ℕ). map tick_or_zero front ++ t ∷ []) same

-- the words from a place on are all that are left
pub all_words : (words : List (List ℕ)) (first last : ℕ) → length words ≤ last
    → take (last - first) (drop first words) ≡ drop first words
all_words words first last long = take_all (last - first) (drop first words) (omega (arith, length-drop first words))

-- ---- ticks that rise

and_true : (a b : Bool) → (a && b) ≡ true → (a ≡ true) × (b ≡ true)
and_true true b both = (refl, both)
and_true false b both = absurd cc

-- the first of rising words is a tick above the one before it, and the others rise from it
record RisesOn (before : Option ℕ) (word : List ℕ) (words : List (List ℕ)) : Type 0 where
  tick : ℕ
  is : tick_or_zero word ≡ tick
  above : is_above before tick ≡ true
  others : are_rising (Some tick) words ≡ true

rises_on : (before : Option ℕ) (word : List ℕ) (words : List (List ℕ)) (found : Option ℕ)
    → tick_of word ≡ found → are_rising before (word ∷ words) ≡ true → RisesOn before word words
rises_on before word words None is rising =
    absurd (let no : false
    ≡ true = sym (ap (λ (t : Option ℕ). rises_from before t (λ tick. are_rising tick words)) is)
    ∙ rising in cc)
rises_on before word words (Some tick) is rising =
    let both =
    and_true (is_above before tick) (are_rising (Some tick) words)
    (sym (ap (λ (t : Option ℕ). rises_from before t (λ tick. are_rising tick words)) is) ∙ rising) in
    record { tick = tick; is = ap (λ (t : Option ℕ). unwrap_or t 0) is; above = both.0; others = both.1 }

above_is : (before tick : ℕ) → is_above (Some before) tick ≡ true → before < tick
above_is before tick above = grind (arith, nat_tests)

-- the ticks of words that rise
pub rising_ticks : (before : Option ℕ) (words : List (List ℕ)) → are_rising before words ≡ true
    → IsStrictlyIncreasing (map tick_or_zero words)
rising_ticks before [] rising k within = absurd (omega arith)
rising_ticks before (word ∷ []) rising k within = absurd (omega arith)
rising_ticks before (word ∷ other ∷ words) rising zero within =
    let first = rises_on before word (other ∷ words) (tick_of word) refl rising in
    let next = rises_on (Some first.tick) other words (tick_of other) refl first.others in
    let less : first.tick < next.tick = above_is first.tick next.tick next.above in
    omega (arith, first.is, next.is, less)
rising_ticks before (word ∷ other ∷ words) rising (suc k) within =
    let first = rises_on before word (other ∷ words) (tick_of word) refl rising in
    let rest = rising_ticks (Some first.tick) (other ∷ words) first.others k (omega arith) in
    let next : suc k + 1 ≡ suc (k + 1) = omega arith in
    subst (λ (n : ℕ). get_or (map tick_or_zero (word ∷ other ∷ words)) (suc k) 0
    < get_or (map tick_or_zero (word ∷ other ∷ words)) n 0) (sym next) rest

-- a tick is at most the latest one
pub at_most_latest : (word : List ℕ) (number : Option ℕ) → number_of 11 word ≡ number
    → tick_or_zero word ≤ LATEST_TICK
at_most_latest word None is =
    let zero_is : tick_or_zero word
    ≡ 0 = ap (λ (n : Option ℕ). unwrap_or (option_and_then (in_range 0 LATEST_TICK) n) 0) is in omega
    (arith, zero_is)
at_most_latest word (Some number) is =
    let its : tick_or_zero word ≡ unwrap_or (in_range 0 LATEST_TICK number) 0 =
    ap (λ (n : Option ℕ). unwrap_or (option_and_then (in_range 0 LATEST_TICK) n) 0) is in
    by (nat_le 0 number && nat_le number LATEST_TICK) refl its
  where
    by : (test : Bool) → (nat_le 0 number && nat_le number LATEST_TICK) ≡ test
        → tick_or_zero word ≡ unwrap_or (in_range 0 LATEST_TICK number) 0 → tick_or_zero word ≤ LATEST_TICK
    by true inside its =
        let value : tick_or_zero word ≡ number =
        its ∙ ap (λ (b : Bool). unwrap_or (if b then Some number else None) 0) inside in
        let below : number ≤ LATEST_TICK = grind (arith, nat_tests) in
        omega (arith, value, below)
    by false outside its =
        let value : tick_or_zero word ≡ 0 =
        its ∙ ap (λ (b : Bool). unwrap_or (if b then Some number else None) 0) outside in
        omega (arith, value)
