-- Instants of scripts that go on above a horizon, parted at the room of a refresh below it.
use Rattle.std.proofs.Common.{◌≡◌, inl, inr, refl, sym, ap, subst, ℕ, suc, ◌+◌, ◌<◌, ◌≤◌, List, [], ◌∷◌, ◌++◌, length, get_or, All, arith, length-append}
use Rattle.std.specs.List.{Contains}
use Rattle.std.specs.List.Sorted.{IsStrictlyIncreasing}
use Rattle.std.proofs.lemmas.Bool.{cases_lt}
use Rattle.std.proofs.lemmas.List.{get_or_append_left}
use Rattle.std.proofs.lemmas.List.Elements.{All-cons, All-contains, Contains-append_cases, Contains-append_left, Contains-append_right, Contains-get_or}
use Rattle.cue_list.specs.declared.epoch.Epoch.{Epoch}
use Rattle.page_epoch.specs.declared.instants.TheConstants.{REFRESH_ROOM}
use Rattle.grown_script_laws.specs.Growth.{EpochsGrow}
use Rattle.page_epoch.specs.Instants.{AreInstants, IsInstant}
use Rattle.page_epoch.proofs.AnswerLaws.{same_rising}
use Rattle.grown_script_laws.proofs.GrowthLaws.{instants_stay, named_stay}
use Rattle.page_epoch.proofs.ListLaws.{All-none, All-one}

-- a tick lies the room of a refresh below the horizon, or more
abbrev pub IsFarBelow : ℕ → ℕ → Type 0
IsFarBelow horizon tick = tick + REFRESH_ROOM ≤ horizon

-- it does not
abbrev pub IsNear : ℕ → ℕ → Type 0
IsNear horizon tick = horizon < tick + REFRESH_ROOM

-- a rising list in two parts: what lies far below the horizon, and what does not
pub record IsParted (horizon : ℕ) (ticks low high : List ℕ) : Type 0 where
  pub whole : ticks ≡ low ++ high
  pub below : All (IsFarBelow horizon) low
  pub near : All (IsNear horizon) high

-- the two parts of a list
pub record Parts (horizon : ℕ) (ticks : List ℕ) : Type 0 where
  pub low : List ℕ
  pub high : List ℕ
  pub parted : IsParted horizon ticks low high

rise_tail : (x : ℕ) (xs : List ℕ) → IsStrictlyIncreasing (x ∷ xs) → IsStrictlyIncreasing xs
rise_tail x xs rise k short =
    let step_on : suc k + 1 ≡ suc (k + 1) = omega arith in
    subst (λ (m : ℕ). get_or (x ∷ xs) (suc k) 0 < get_or (x ∷ xs) m 0) step_on (rise (suc k) (omega arith))

all_near : (horizon x : ℕ) (xs : List ℕ) → IsStrictlyIncreasing (x ∷ xs) → IsNear horizon x
    → All (IsNear horizon) (x ∷ xs)
all_near horizon x [] rise near = All-one (IsNear horizon) x near
all_near horizon x (y ∷ xs) rise near =
    let next : x < y = rise 0 (omega arith) in
    All-cons (IsNear horizon) x (y ∷ xs) near
    (all_near horizon y xs (rise_tail x (y ∷ xs) rise) (omega (arith, next, near)))

one_more : (horizon x : ℕ) (xs : List ℕ) → IsFarBelow horizon x → Parts horizon xs → Parts horizon (x ∷ xs)
one_more horizon x xs below parts = record {
  low = x ∷ parts.low;
  high = parts.high;
  parted = record {
    whole = ap (λ (ys : List ℕ). x ∷ ys) parts.parted.whole;
    below = All-cons (IsFarBelow horizon) x parts.low below parts.parted.below;
    near = parts.parted.near;
  };
}

-- a rising list has two parts
pub parts_of : (horizon : ℕ) (ticks : List ℕ) → IsStrictlyIncreasing ticks → Parts horizon ticks
parts_of horizon [] rise = record {
  low = [];
  high = [];
  parted = record {
    whole = refl;
    below = All-none (IsFarBelow horizon);
    near = All-none (IsNear horizon);
  };
}
parts_of horizon (x ∷ xs) rise =
    elim (cases_lt horizon (x + REFRESH_ROOM)) [
      | inl near ↦ record {
        low = [];
        high = x ∷ xs;
        parted = record {
          whole = refl;
          below = All-none (IsFarBelow horizon);
          near = all_near horizon x xs rise near;
        };
      }
      | inr below ↦ one_more horizon x xs below (parts_of horizon xs (rise_tail x xs rise))
    ]

rise_front : (xs ys : List ℕ) → IsStrictlyIncreasing (xs ++ ys) → IsStrictlyIncreasing xs
rise_front xs ys rise k short =
    let first = get_or_append_left xs ys 0 k (omega (arith, short)) in
    let second = get_or_append_left xs ys 0 (k + 1) short in
    let next = rise k (omega (arith, short, length-append xs ys)) in
    omega (arith, first, second, next)

rise_low : (horizon : ℕ) (ticks : List ℕ) (parts : Parts horizon ticks) → IsStrictlyIncreasing ticks
    → IsStrictlyIncreasing parts.low
rise_low horizon ticks parts rise =
    rise_front parts.low parts.high (subst IsStrictlyIncreasing parts.parted.whole rise)

-- what stands in a list far below the horizon stands in its first part
in_low : (horizon : ℕ) (ticks : List ℕ) (parts : Parts horizon ticks) (tick : ℕ) → IsFarBelow horizon tick
    → Contains ticks tick → Contains parts.low tick
in_low horizon ticks parts tick below there =
    let Has : List ℕ → Type 0 = λ xs. Contains xs tick in
    elim (Contains-append_cases parts.low parts.high tick (subst Has parts.parted.whole there)) [
      | inl here ↦ here
      | inr later ↦ absurd
          (omega (arith, All-contains (IsNear horizon) parts.high tick parts.parted.near later, below))
    ]

in_whole : (horizon : ℕ) (ticks : List ℕ) (parts : Parts horizon ticks) (tick : ℕ) → Contains parts.low tick
    → Contains ticks tick
in_whole horizon ticks parts tick there =
    let Has : List ℕ → Type 0 = λ xs. Contains xs tick in
    subst Has (sym parts.parted.whole) (Contains-append_left parts.low parts.high tick there)

-- what of one list's first part is always in the other list is in its first part
low_in_low : (horizon : ℕ) (one other : List ℕ) (first : Parts horizon one) (second : Parts horizon other)
    → ((tick : ℕ) → IsFarBelow horizon tick → Contains one tick → Contains other tick)
    → (tick : ℕ) → Contains first.low tick → Contains second.low tick
low_in_low horizon one other first second onward tick there =
    let below = All-contains (IsFarBelow horizon) first.low tick first.parted.below there in
    in_low horizon other second tick below (onward tick below (in_whole horizon one first tick there))

-- the instants of a script and of one that goes on
pub record AreGrown (horizon : ℕ) (old new : List Epoch) (refresh : ℕ) (before now : List ℕ) : Type 0 where
  pub grow : EpochsGrow horizon old new
  pub were : AreInstants old refresh before
  pub are : AreInstants new refresh now

-- they are the same far below the horizon
pub same_low : (horizon : ℕ) (old new : List Epoch) (refresh : ℕ) (before now : List ℕ)
    → AreGrown horizon old new refresh before now → (first : Parts horizon before) (second : Parts horizon now)
    → first.low ≡ second.low
same_low horizon old new refresh before now grown first second =
    same_rising first.low second.low (rise_low horizon before first grown.were.rise)
    (rise_low horizon now second grown.are.rise)
    (low_in_low horizon before now first second
    (λ tick below there. grown.are.all tick
    ((instants_stay horizon old new refresh tick grown.grow below).0
    (All-contains (IsInstant old refresh) before tick grown.were.each there))))
    (low_in_low horizon now before second first
    (λ tick below there. grown.were.all tick
    ((instants_stay horizon old new refresh tick grown.grow below).1
    (All-contains (IsInstant new refresh) now tick grown.are.each there))))

-- an instant that is not far below the horizon
abbrev HasNear : ℕ → List Epoch → ℕ → Type 0
HasNear horizon epochs refresh = (tick : ℕ) × IsInstant epochs refresh tick × IsNear horizon tick

still_near : (horizon : ℕ) (old new : List Epoch) (refresh tick : ℕ) → EpochsGrow horizon old new
    → IsInstant old refresh tick → IsNear horizon tick → HasNear horizon new refresh
still_near horizon old new refresh tick grow (inl named) near =
    (tick, inl ((named_stay horizon old new grow).kept tick named), near)
still_near horizon old new refresh tick grow (inr is) near = (
  is.next,
  inl ((named_stay horizon old new grow).kept is.next is.neighbours.has_second),
  omega (arith, is.room, near),
)

has_one : {X : Type 0} (xs : List X) (x : X) → Contains xs x → 1 ≤ length xs
has_one [] x (k, short, is) = absurd (omega (arith, short))
has_one (first ∷ xs) x there = omega arith

near_there : (horizon : ℕ) (ticks : List ℕ) (parts : Parts horizon ticks) (tick : ℕ) → IsNear horizon tick
    → Contains ticks tick → 1 ≤ length parts.high
near_there horizon ticks parts tick near there =
    let Has : List ℕ → Type 0 = λ xs. Contains xs tick in
    elim (Contains-append_cases parts.low parts.high tick (subst Has parts.parted.whole there)) [
      | inl here ↦ absurd
          (omega (arith, All-contains (IsFarBelow horizon) parts.low tick parts.parted.below here, near))
      | inr later ↦ has_one parts.high tick later
    ]

-- where a script has an instant that is not far below the horizon, one that goes on has one
pub near_stays : (horizon : ℕ) (old new : List Epoch) (refresh : ℕ) (before now : List ℕ)
    → AreGrown horizon old new refresh before now → (first : Parts horizon before) (second : Parts horizon now)
    → 1 ≤ length first.high → 1 ≤ length second.high
near_stays horizon old new refresh before now grown first second some =
    let tick = get_or first.high 0 0 in
    let near : IsNear horizon tick = first.parted.near 0 0 (omega (arith, some)) in
    let at : Contains before tick =
    subst (λ (xs : List ℕ). Contains xs tick) (sym first.parted.whole)
    (Contains-append_right first.low first.high tick (Contains-get_or first.high 0 0 (omega (arith, some)))) in
    let later =
    still_near horizon old new refresh tick grown.grow
    (All-contains (IsInstant old refresh) before tick grown.were.each at) near in
    near_there horizon now second later.0 later.2 (grown.are.all later.0 later.1)
