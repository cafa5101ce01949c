-- The ticks at the end of a command.
use Rattle.std.specs.Prelude.{ℕ, Bool, true, false, ◌&&◌, nat_lt, nat_le, ◌+◌, List, [], ◌∷◌, length, drop, map, unwrap_or, Option, Some, None}
use Rattle.sub_base.specs.Number.{number_in}
use Rattle.command_words.specs.declared.ranges.TheConstants.{LATEST_TICK}

-- a tick on the command line
abbrev pub tick_of : List ℕ → Option ℕ
tick_of word = number_in 0 LATEST_TICK word

-- a tick lies above the one before it, where there is one
abbrev pub is_above : Option ℕ → ℕ → Bool
is_above None tick = true
is_above (Some before) tick = nat_lt before tick

-- the word is that tick, and the others rise from it
abbrev pub rises_from : Option ℕ → Option ℕ → (Option ℕ → Bool) → Bool
rises_from before None others = false
rises_from before (Some tick) others = is_above before tick && others (Some tick)

-- each of the words is a tick, and lies above the one before it
abbrev pub are_rising : Option ℕ → List (List ℕ) → Bool
are_rising before [] = true
are_rising before (word ∷ words) = rises_from before (tick_of word) (λ tick. are_rising tick words)

-- the tick that a word is; 0 where it is none
abbrev pub tick_or_zero : List ℕ → ℕ
tick_or_zero word = unwrap_or (tick_of word) 0

-- the ticks that are asked for: those that the words from a place on are
abbrev pub asked_ticks : ℕ → List (List ℕ) → List ℕ
asked_ticks place words = map tick_or_zero (drop place words)

-- so many words come before 1 to 1,000 rising ticks
abbrev pub has_ticks : ℕ → List (List ℕ) → Bool
has_ticks place words =
    nat_lt place (length words) && nat_le (length words) (place + 1000) && are_rising None (drop place words)
