-- The texts of ticks from a place on.
use Rattle.std.proofs.Common.{◌≡◌, ◌∙◌, ℕ, zero, suc, ◌+◌, ◌<◌, ◌≤◌, true, false, List, [], ◌∷◌, ◌++◌, length, take, drop, get_or, append-nil, ◌⊎◌, inl, inr, refl, sym, ap, subst, arith}
use Rattle.std.specs.Prelude.{filter, max, nat_lt, unwrap_or}
use Rattle.std.specs.List.{flat_map}
use Rattle.std.specs.List.Sorted.{IsStrictlyIncreasing}
use Rattle.std.proofs.lemmas.Bool.Decides.{nat_tests}
use Rattle.std.proofs.lemmas.List.{drop-append-le, length-take-le, take-append-drop, take_more}
use Rattle.std.proofs.lemmas.List.Concat.{flat_map-append}
use Rattle.std.proofs.lemmas.List.Kept.{AllPairs-from_increasing}
use Rattle.decoder_model.specs.Kept.{last_time}
use Rattle.decoder_model.specs.Readings.{Reading}
use Rattle.decoder_model.specs.Received.{Reception}
use Rattle.decoder_model.specs.Sets.{Delivery}
use Rattle.decoder_model.specs.Shown.{view_at}
use Rattle.command_text.specs.Putting.{Buffered, PutsOut}
use Rattle.command_text.proofs.PutLaws.{PutsOut-both, PutsOut-nothing}
use Rattle.receiver.specs.Asking.{Asking, KeepsSets}
use Rattle.receiver.proofs.Asks.{same_kept}
use Rattle.sub_base.specs.Endpoints.{Received}
use Rattle.sub_base.specs.declared.profile.Profile.{Profile}
use Rattle.dump_text.specs.DumpText.{shown_text, view_text}
use Rattle.dump_text.specs.Dumping.{AreBefore, AreFrom, PutsAsked, PutsBetween, ticks_between}

-- ---- ticks between two places

-- none
pub none_between : (first : ℕ) (ticks : List ℕ) → ticks_between first first ticks ≡ []
none_between first ticks = by first ticks
  where
    by : (first : ℕ) (ticks : List ℕ) → drop first (take first ticks) ≡ []
    by zero ticks = refl
    by (suc first) [] = refl
    by (suc first) (tick ∷ ticks) = by first ticks

-- one more
pub between_more : (first place : ℕ) (ticks : List ℕ) → first ≤ place → place < length ticks
    → ticks_between first (place + 1) ticks ≡ ticks_between first place ticks ++ get_or ticks place 0 ∷ []
between_more first place ticks from within =
    ap (drop first) (take_more ticks place 0 within)
    ∙ drop-append-le first (take place ticks) (get_or ticks place 0 ∷ [])
    (omega (arith, length-take-le place ticks (omega arith)))

-- the first ticks, and those behind them
take_of_take : (n m : ℕ) (ticks : List ℕ) → n ≤ m → take n (take m ticks) ≡ take n ticks
take_of_take zero m ticks few = refl
take_of_take (suc n) zero ticks few = absurd (omega arith)
take_of_take (suc n) (suc m) [] few = refl
take_of_take (suc n) (suc m) (tick ∷ ticks) few =
    ap (λ (rest : List ℕ). tick ∷ rest) (take_of_take n m ticks (omega arith))

pub front_and_between : (first next : ℕ) (ticks : List ℕ) → first ≤ next
    → take next ticks ≡ take first ticks ++ ticks_between first next ticks
front_and_between first next ticks from =
    sym (take-append-drop first (take next ticks))
    ∙ ap (λ (front : List ℕ). front ++ ticks_between first next ticks) (take_of_take first next ticks from)

-- ---- their texts

-- ticks at which the same is shown have the same texts
pub same_texts : (f g : ℕ → List ℕ) (ticks : List ℕ)
    → ((k : ℕ) → k < length ticks → f (get_or ticks k 0) ≡ g (get_or ticks k 0))
    → flat_map f ticks ≡ flat_map g ticks
same_texts f g [] same = refl
same_texts f g (tick ∷ ticks) same =
    ap (λ (text : List ℕ). text ++ flat_map f ticks) (same 0 (omega arith))
    ∙ ap (λ (text : List ℕ). g tick ++ text) (same_texts f g ticks (λ k within. same (suc k) (omega arith)))

module _ (profile : Profile) (anchor : ℕ) (past : List (Delivery Reading)) where
  -- the text of one more tick
  pub text_more : (first place : ℕ) (ticks : List ℕ) → first ≤ place → place < length ticks
      → shown_text profile anchor past (ticks_between first (place + 1) ticks)
      ≡ shown_text profile anchor past (ticks_between first place ticks)
      ++ view_text (get_or ticks place 0) (view_at profile anchor (get_or ticks place 0) past)
  text_more first place ticks from within =
      ap (shown_text profile anchor past) (between_more first place ticks from within)
      ∙ flat_map-append (λ (tick : ℕ). view_text tick (view_at profile anchor tick past))
      (ticks_between first place ticks) (get_or ticks place 0 ∷ [])
      ∙ ap (λ (text : List ℕ). shown_text profile anchor past (ticks_between first place ticks) ++ text)
      (append-nil (view_text (get_or ticks place 0) (view_at profile anchor (get_or ticks place 0) past)))

  -- the texts of the first ticks, and of those behind them
  pub text_joined : (first next : ℕ) (ticks : List ℕ) → first ≤ next
      → shown_text profile anchor past (take next ticks) ≡ shown_text profile anchor past (take first ticks)
      ++ shown_text profile anchor past (ticks_between first next ticks)
  text_joined first next ticks from =
      ap (shown_text profile anchor past) (front_and_between first next ticks from)
      ∙ flat_map-append (λ (tick : ℕ). view_text tick (view_at profile anchor tick past)) (take first ticks)
      (ticks_between first next ticks)

-- ---- ticks before an end

-- ticks that rise are all from an end on, from the first one that is not before it
pub from_the_first : (ticks : List ℕ) (end place : ℕ) → IsStrictlyIncreasing ticks
    → end ≤ get_or ticks place 0 → AreFrom end place ticks
from_the_first ticks end place rising at k from within = by (compared place k from)
  where
    compared : (a b : ℕ) → a ≤ b → (a ≡ b) ⊎ (a < b)
    compared a b less = grind arith

    by : (place ≡ k) ⊎ (place < k) → end ≤ get_or ticks k 0
    by (inl same) = omega (arith, at, ap (λ (n : ℕ). get_or ticks n 0) same)
    by (inr below) =
        let less : get_or ticks place 0
        < get_or ticks k 0 = AllPairs-from_increasing ticks rising place k 0 below within in omega arith

-- one more tick before an end
pub before_more : (ticks : List ℕ) (end first place : ℕ) → AreBefore end first place ticks
    → get_or ticks place 0 < end → AreBefore end first (place + 1) ticks
before_more ticks end first place before less k from below = by (compared k place (omega arith))
  where
    compared : (a b : ℕ) → a ≤ b → (a ≡ b) ⊎ (a < b)
    compared a b some = grind arith

    by : (k ≡ place) ⊎ (k < place) → get_or ticks k 0 < end
    by (inl same) = omega (arith, less, ap (λ (n : ℕ). get_or ticks n 0) same)
    by (inr earlier) = before k from earlier

-- the ticks before an end are the first ones, where the others are from it on
pub before_end : (end told : ℕ) (ticks : List ℕ) → told ≤ length ticks
    → ((k : ℕ) → k < told → get_or ticks k 0 < end) → AreFrom end told ticks
    → filter (λ tick. nat_lt tick end) ticks ≡ take told ticks
before_end end zero [] within early later = refl
before_end end (suc told) [] within early later = absurd (omega arith)
before_end end zero (tick ∷ ticks) within early later =
    let late : end ≤ tick = later 0 (omega arith) (omega arith) in
    let test : nat_lt tick end ≡ false = grind (arith, nat_tests) in
    rw test (before_end end zero ticks (omega arith) (λ k none. absurd (omega arith))
    (λ k from inside. later (suc k) (omega arith) (omega arith)))
before_end end (suc told) (tick ∷ ticks) within early later =
    let soon : tick < end = early 0 (omega arith) in
    let test : nat_lt tick end ≡ true = grind (arith, nat_tests) in
    rw test (ap (λ (rest : List ℕ). tick ∷ rest)
    (before_end end told ticks (omega arith) (λ k less. early (suc k) (omega arith))
    (λ k from inside. later (suc k) (omega arith) (omega arith))))

-- a tick that is no earlier than another
pub no_earlier : (tick other later : ℕ) → later ≡ max tick other → other ≤ tick → later ≡ tick
no_earlier tick other later is less = grind (arith, nat_tests)

-- ---- what is put out

-- what is put out of a receiver that has drawn something is of what it was
asked_before : (old mid : Asking) (before now : Received) (was is : Buffered) (tick : ℕ) → KeepsSets old mid
    → PutsAsked mid before now was is tick → PutsAsked old before now was is tick
asked_before old mid before now was is tick keeps puts ended packets given past stands read from =
    let same = same_kept old mid keeps in
    subst
    (λ (made : Reception). PutsOut before now was is
    (view_text tick (view_at made.profile made.anchor tick past))) same
    (puts ended packets given past (keeps.stands ended packets given stands) read
    (subst (λ (made : Reception). unwrap_or (last_time made.anchor past) 0 ≤ tick) (sym same) from))

-- what is shown at one more tick
pub puts_more : (old mid : Asking) (before between now : Received) (was middle is : Buffered) (ticks : List ℕ)
    (first place : ℕ) → KeepsSets old mid → first ≤ place → place < length ticks
    → PutsBetween old before between was middle ticks first place
    → PutsAsked mid between now middle is (get_or ticks place 0)
    → PutsBetween old before now was is ticks first (place + 1)
puts_more old mid before between now was middle is ticks first place keeps next within puts asked ended packets given
    past stands read from =
    subst (λ (text : List ℕ). PutsOut before now was is text)
    (sym (text_more old.showing.core.profile old.showing.core.anchor past first place ticks next within))
    (PutsOut-both before between now was middle is _ _ (puts ended packets given past stands read from)
    (asked_before old mid between now middle is (get_or ticks place 0) keeps asked ended packets given past stands read
    (from place next within)))

-- nothing
pub puts_none : (receiving : Asking) (shown : Received) (buffer : Buffered) (ticks : List ℕ) (first : ℕ)
    → PutsBetween receiving shown shown buffer buffer ticks first first
puts_none receiving shown buffer ticks first ended packets given past stands read from =
    subst (λ (ticks : List ℕ). PutsOut shown shown buffer buffer
    (shown_text receiving.showing.core.profile receiving.showing.core.anchor past ticks))
    (sym (none_between first ticks)) (PutsOut-nothing shown buffer)
