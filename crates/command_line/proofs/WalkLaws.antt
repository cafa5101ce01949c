-- What a parse makes of plain words, for a command with one argument of any number of words: it takes them all.
use Rattle.std.proofs.Common.{◌≡◌, ◌∙◌, ◌≤◌, ◌&&◌, ◌==◌, not, ℕ, Bool, true, false, List, [], ◌∷◌, ◌++◌, length, fold, Some, None, codes, ap, ap₂, sym, refl, arith, nat_le, unwrap_or, append_assoc, append-nil, true≢false}
use Rattle.std.specs.List.{list_all}
use Rattle.std.proofs.lemmas.Bool.Decides.{nat_tests}
use Rattle.clap.specs.Lexer.{short_of, usize_max}
use Rattle.clap.specs.Simple.{Shape, built, is_simple, matches_of}
use Rattle.clap.specs.Takes.{entered_passes, settle_passes, takes, turn_passes, walk_passes}
use Rattle.clap.specs.Walk.{Held, Rule, Text, Walk, all_of, finished, nothing_held, positional, walk, walk_from, walked}
use Rattle.clap.proofs.OnLiterals.{clap_on_literals}
use Rattle.clap.proofs.WalkLemmas.{both}
use Rattle.command_line.specs.OneArgument.{one_argument}
use Rattle.command_words.specs.PlainWords.{is_plain}

-- the command once it is built
abbrev shape : Shape
shape = (built one_argument).top

abbrev rules : List Rule
rules = shape.rules

-- these words were taken, and more may follow
abbrev held : List Text → Held
held words = record { rows = []; pending = Some (codes "word", words); skip = 0 }

abbrev taken : List Text → Walk
taken words = record {
  held = held words;
  waiting = positional;
  position = 1;
  is_trailing = false;
  stopped = None;
}

-- a plain word begins with another byte than `-`
not_dash : (x : ℕ) (xs : Text) → is_plain (x ∷ xs) ≡ true → (x == 45) ≡ false
not_dash x xs e = go (x == 45) (both (nat_le 1 (length (x ∷ xs))) _ e).1
  where
    go : (b : Bool) → not b ≡ true → b ≡ false
    go true e = sym e
    go false e = refl

-- and is no bundle of flags
no_flags : (x : ℕ) (xs : Text) → is_plain (x ∷ xs) ≡ true → short_of (x ∷ xs) ≡ None
no_flags x xs e = rw (not_dash x xs e) refl

-- a plain word is a value, the first one and each that follows
taken_first : (word : Text) → is_plain word ≡ true
    → walked rules [] (walk_from nothing_held) word ≡ taken (word ∷ [])
unfolding clap_on_literals
taken_first [] e = absurd (true≢false (sym e))
taken_first (x ∷ xs) e = rw (not_dash x xs e, no_flags x xs e) refl

taken_next : (words : List Text) (word : Text) → is_plain word ≡ true
    → walked rules [] (taken words) word ≡ taken (words ++ word ∷ [])
unfolding clap_on_literals
taken_next words [] e = absurd (true≢false (sym e))
taken_next words (x ∷ xs) e = rw (not_dash x xs e, no_flags x xs e) refl

turn_first : (word : Text) → is_plain word ≡ true → turn_passes shape [] (walk_from nothing_held) word ≡ true
unfolding clap_on_literals
turn_first [] e = absurd (true≢false (sym e))
turn_first (x ∷ xs) e = rw (not_dash x xs e, no_flags x xs e) refl

turn_next : (words : List Text) (word : Text) → is_plain word ≡ true
    → turn_passes shape [] (taken words) word ≡ true
unfolding clap_on_literals
turn_next words [] e = absurd (true≢false (sym e))
turn_next words (x ∷ xs) e = rw (not_dash x xs e, no_flags x xs e) refl

-- the walk over all words
walk_taken : (before words : List Text) → list_all is_plain words ≡ true
    → fold (walked rules []) (taken before) words ≡ taken (before ++ words)
walk_taken before [] e = ap taken (sym (append-nil before))
walk_taken before (word ∷ rest) e =
    ap (λ (w : Walk). fold (walked rules []) w rest) (taken_next before word (both (is_plain word) _ e).0)
    ∙ walk_taken (before ++ word ∷ []) rest (both (is_plain word) _ e).1
    ∙ ap taken (append_assoc before (word ∷ []) rest)

walk_words : (word : Text) (rest : List Text) → list_all is_plain (word ∷ rest) ≡ true
    → walk rules [] nothing_held (word ∷ rest) ≡ taken (word ∷ rest)
walk_words word rest e =
    ap (λ (w : Walk). fold (walked rules []) w rest) (taken_first word (both (is_plain word) _ e).0)
    ∙ walk_taken (word ∷ []) rest (both (is_plain word) _ e).1

passes_taken : (before words : List Text) → list_all is_plain words ≡ true
    → walk_passes shape [] (taken before) words ≡ true
unfolding walk_passes
passes_taken before [] e = refl
passes_taken before (word ∷ rest) e =
    ap₂ (λ (b : Bool) (w : Walk). b && walk_passes shape [] w rest)
    (turn_next before word (both (is_plain word) _ e).0) (taken_next before word (both (is_plain word) _ e).0)
    ∙ passes_taken (before ++ word ∷ []) rest (both (is_plain word) _ e).1

passes_words : (words : List Text) → list_all is_plain words ≡ true
    → walk_passes shape [] (walk_from nothing_held) words ≡ true
unfolding walk_passes
passes_words [] e = refl
passes_words (word ∷ rest) e =
    ap₂ (λ (b : Bool) (w : Walk). b && walk_passes shape [] w rest) (turn_first word (both (is_plain word) _ e).0)
    (taken_first word (both (is_plain word) _ e).0)
    ∙ passes_taken (word ∷ []) rest (both (is_plain word) _ e).1

-- any text is a value
all_pass : (words : List Text) → list_all (λ _. true) words ≡ true
all_pass [] = refl
all_pass (word ∷ rest) = all_pass rest

-- so many words as an address counts are not too many
settles : (word : Text) (rest : List Text) → length (word ∷ rest) ≤ usize_max
    → settle_passes rules false (held (word ∷ rest)) ≡ true
unfolding clap_on_literals
settles word rest fits =
    let least : nat_le 1 (length (word ∷ rest)) ≡ true = grind (arith, nat_tests) in
    let most : nat_le (length (word ∷ rest)) usize_max ≡ true = grind (arith, nat_tests) in
    rw (least, most) (all_pass rest)

pub is_one_simple : is_simple one_argument ≡ true
unfolding clap_on_literals
is_one_simple = refl

-- all words are found, in their order
pub words_found : (words : List Text) → list_all is_plain words ≡ true → unwrap_or (all_of (codes "word") (matches_of one_argument words)) [] ≡ words
unfolding clap_on_literals
words_found [] e = refl
words_found (word ∷ rest) e =
    ap (λ (w : Walk). unwrap_or (all_of (codes "word") (finished rules w.held)) []) (walk_words word rest e)

-- no list of plain words is refused
pub words_pass : (words : List Text) → length words ≤ usize_max → list_all is_plain words ≡ true
    → takes one_argument words ≡ true
unfolding clap_on_literals
words_pass [] fits e = refl
words_pass (word ∷ rest) fits e =
    let at_end : Walk → Bool = λ w. (entered_passes (built one_argument) w.stopped)
    && (walk_passes shape [] (walk_from nothing_held) (word ∷ rest) && (settle_passes rules false w.held && true)) in
    rw (walk_words word rest e, passes_words (word ∷ rest) e, settles word rest fits) refl
