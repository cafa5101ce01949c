-- The programmes that entries list.
use Rattle.std.proofs.Common.{◌≡◌, ◌∙◌, ℕ, ◌==◌, Bool, true, false, not, List, [], ◌∷◌, ◌++◌, map, refl, sym, ap, arith, append_assoc, append-nil}
use Rattle.std.specs.Prelude.{◌&&◌, ◌||◌, filter}
use Rattle.std.specs.List.{list_any}
use Rattle.std.proofs.lemmas.Bool.Decides.{nat_tests}
use Rattle.std.proofs.lemmas.List.{map-append}
use Rattle.std.proofs.lemmas.List.Elements.{filter_agree}
use Rattle.psi_tables.specs.Loops.{PatEntry, entries_of}
use Rattle.psi_tables.specs.Walking.{IsFirstEntry, entry_value}
use Rattle.psi_tables.specs.declared.loops.ProgrammeEntry.{ProgrammeEntry}
use Rattle.service_tables.specs.Reading.{ProgrammeReading, entry_of}
use Rattle.service_tables.specs.Tables.{programmes_of}

-- ---- filters

filter_twice : {X : Type 0} → (p q : X → Bool) → (xs : List X)
    → filter p (filter q xs) ≡ filter (λ x. q x && p x) xs
filter_twice p q [] = refl
filter_twice {X} p q (x ∷ xs) = by (q x) (p x) refl refl (filter_twice p q xs)
  where
    by : (in_q in_p : Bool) → q x ≡ in_q → p x ≡ in_p
        → filter p (filter q xs) ≡ filter (λ y. q y && p y) xs
        → filter p (filter q (x ∷ xs)) ≡ filter (λ y. q y && p y) (x ∷ xs)
    by true true e f more = rw (e, f) (ap (λ (l : List X). x ∷ l) more)
    by true false e f more = rw (e, f) more
    by false in_p e f more = rw e more

-- ---- programmes that are not listed yet

-- no programme of these has the number of that entry
abbrev pub is_new : List PatEntry → PatEntry → Bool
is_new listed entry = not (list_any (λ earlier. earlier.number == entry.number) listed)

-- what further entries list beside these programmes
abbrev pub further : List PatEntry → List PatEntry → List PatEntry
further listed entries = filter (is_new listed) (programmes_of entries)

or_false : (b : Bool) → (b || false) ≡ b
or_false true = refl
or_false false = refl

or_both : (a b c : Bool) → (a || (b || c)) ≡ ((a || b) || c)
or_both true b c = refl
or_both false b c = refl

any_more : {X : Type 0} → (test : X → Bool) → (xs : List X) → (x : X)
    → list_any test (xs ++ x ∷ []) ≡ (list_any test xs || test x)
any_more test [] x = or_false (test x)
any_more test (y ∷ xs) x =
    ap (λ (b : Bool). test y || b) (any_more test xs x) ∙ or_both (test y) (list_any test xs) (test x)

other_number : (a b : ℕ) (is : Bool) → (a == b) ≡ is → (b == a) ≡ is
other_number a b true e = grind (arith, nat_tests)
other_number a b false e = grind (arith, nat_tests)

-- an entry that is passed over
further_passed : (listed : List PatEntry) (entry : PatEntry) (entries : List PatEntry)
    → ((entry.number == 0) || not (is_new listed entry)) ≡ true
    → further listed (entry ∷ entries) ≡ further listed entries
further_passed listed entry entries passed =
    by (entry.number == 0) (is_new listed entry) refl refl passed
  where
    -- another one with its number is not new either
    same : (other : PatEntry) (fresh equal : Bool) → is_new listed other ≡ fresh
        → (other.number == entry.number) ≡ equal → is_new listed entry ≡ false
        → (not (other.number == entry.number) && is_new listed other) ≡ is_new listed other
    same other fresh false e f old = rw f refl
    same other false true e f old = rw (e, f) refl
    same other true true e f old =
        let equal : other.number ≡ entry.number = grind (arith, nat_tests, f) in
        absurd (clash (sym e ∙ ap (λ (n : ℕ). not (list_any (λ (p : PatEntry). p.number == n) listed)) equal ∙ old))
      where
        clash : true ≡ false → ⊥
        clash e = absurd cc

    by : (network fresh : Bool) → (entry.number == 0) ≡ network → is_new listed entry ≡ fresh
        → (network || not fresh) ≡ true
        → further listed (entry ∷ entries) ≡ further listed entries
    by true fresh e f p = rw e refl
    by false true e f p = absurd cc
    by false false e f p =
        rw (e, f)
        (filter_twice (is_new listed) (λ other. not (other.number == entry.number)) (programmes_of entries)
        ∙ filter_agree (λ other. not (other.number == entry.number) && is_new listed other) (is_new listed)
        (λ other. same other (is_new listed other) (other.number == entry.number) refl refl f)
        (programmes_of entries))

-- an entry that lists one
further_listed : (listed : List PatEntry) (entry : PatEntry) (entries : List PatEntry)
    → (entry.number == 0) ≡ false → is_new listed entry ≡ true
    → further listed (entry ∷ entries) ≡ entry ∷ further (listed ++ entry ∷ []) entries
further_listed listed entry entries e f =
    rw (e, f)
    (ap (λ (l : List PatEntry). entry ∷ l)
    (filter_twice (is_new listed) (λ other. not (other.number == entry.number)) (programmes_of entries)
    ∙ filter_agree (λ other. not (other.number == entry.number) && is_new listed other)
    (is_new (listed ++ entry ∷ [])) (λ other. both other) (programmes_of entries)))
  where
    cases : (a b : Bool) → (not a && not b) ≡ not (b || a)
    cases true true = refl
    cases true false = refl
    cases false true = refl
    cases false false = refl

    both : (other : PatEntry)
        → (not (other.number == entry.number) && is_new listed other) ≡ is_new (listed ++ entry ∷ []) other
    both other =
        ap (λ (b : Bool). not b && is_new listed other)
        (other_number entry.number other.number (entry.number == other.number) refl)
        ∙ cases (entry.number == other.number) (list_any (λ earlier. earlier.number == other.number) listed)
        ∙ ap (λ (b : Bool). not b) (sym (any_more (λ earlier. earlier.number == other.number) listed entry))

-- ---- entries, one after the other

-- these programmes and those of the entries that are left are all
abbrev pub AllAre : List PatEntry → List ProgrammeReading → List ℕ → Type 0
AllAre all programmes rest =
    map entry_of programmes ++ further (map entry_of programmes) (entries_of rest) ≡ programmes_of all

nothing_listed : (entries : List PatEntry) → further [] entries ≡ programmes_of entries
nothing_listed entries = keeps (programmes_of entries)
  where
    keeps : (xs : List PatEntry) → filter (is_new []) xs ≡ xs
    keeps [] = refl
    keeps (x ∷ xs) = ap (λ (l : List PatEntry). x ∷ l) (keeps xs)

pub none_before : (all : List PatEntry) (bytes : List ℕ) → entries_of bytes ≡ all → AllAre all [] bytes
none_before all bytes is = nothing_listed (entries_of bytes) ∙ ap programmes_of is

-- the test of the code
any_entry : (number : ℕ) (programmes : List ProgrammeReading)
    → list_any (λ (p : ProgrammeReading). p.number == number) programmes
    ≡ list_any (λ (e : PatEntry). e.number == number) (map entry_of programmes)
any_entry number [] = refl
any_entry number (p ∷ programmes) = ap (λ (b : Bool). p.number == number || b) (any_entry number programmes)

pub entry_passed : (all : List PatEntry) (programmes : List ProgrammeReading) (rest behind : List ℕ)
    (entry : ProgrammeEntry) → IsFirstEntry rest entry behind
    → (not (entry.number == 0)
    && not (list_any (λ (p : ProgrammeReading). p.number == entry.number) programmes)) ≡ false
    → AllAre all programmes rest → AllAre all programmes behind
entry_passed all programmes rest behind entry is test are =
    ap (λ (l : List PatEntry). map entry_of programmes ++ l)
    (sym (further_passed (map entry_of programmes) (entry_value entry) (entries_of behind)
    (by (entry.number == 0) (list_any (λ (e : PatEntry). e.number == entry.number) (map entry_of programmes))
    (ap (λ (b : Bool). not (entry.number == 0) && not b) (sym (any_entry entry.number programmes)) ∙ test)))
    ∙ ap (further (map entry_of programmes)) (sym is.first))
    ∙ are
  where
    by : (a b : Bool) → (not a && not b) ≡ false → (a || not (not b)) ≡ true
    by true b e = refl
    by false true e = refl
    by false false e = absurd cc

pub entry_listed : (all : List PatEntry) (programmes : List ProgrammeReading) (made : ProgrammeReading)
    (rest behind : List ℕ) (entry : ProgrammeEntry) → entry_of made ≡ entry_value entry
    → IsFirstEntry rest entry behind
    → (not (entry.number == 0)
    && not (list_any (λ (p : ProgrammeReading). p.number == entry.number) programmes)) ≡ true
    → AllAre all programmes rest → AllAre all (programmes ++ made ∷ []) behind
entry_listed all programmes made rest behind entry made_is is test are =
    let listed : List PatEntry = map entry_of programmes in
    let tests =
    by (entry.number == 0) (list_any (λ (e : PatEntry). e.number == entry.number) listed)
    (ap (λ (b : Bool). not (entry.number == 0) && not b) (sym (any_entry entry.number programmes)) ∙ test) in
    let grown : map entry_of (programmes ++ made ∷ []) ≡ listed ++ entry_value entry ∷ [] =
    map-append entry_of programmes (made ∷ []) ∙ ap (λ (e : PatEntry). listed ++ e ∷ []) made_is in
    ap (λ (l : List PatEntry). l ++ further l (entries_of behind)) grown
    ∙ append_assoc listed (entry_value entry ∷ [])
    (further (listed ++ entry_value entry ∷ []) (entries_of behind))
    ∙ ap (λ (l : List PatEntry). listed ++ l)
    (sym (further_listed listed (entry_value entry) (entries_of behind) tests.0 tests.1)
    ∙ ap (further listed) (sym is.first))
    ∙ are
  where
    by : (a b : Bool) → (not a && not b) ≡ true → (a ≡ false) × (not b ≡ true)
    by true b e = absurd cc
    by false true e = absurd cc
    by false false e = (refl, refl)

-- no entry is left
pub all_listed : (all : List PatEntry) (programmes : List ProgrammeReading) (rest : List ℕ)
    → entries_of rest ≡ [] → AllAre all programmes rest → map entry_of programmes ≡ programmes_of all
all_listed all programmes rest none are =
    sym (append-nil (map entry_of programmes))
    ∙ ap (λ (l : List PatEntry). map entry_of programmes ++ further (map entry_of programmes) l) (sym none)
    ∙ are
