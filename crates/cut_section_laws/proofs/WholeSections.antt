-- What a reader of sections makes of the front of a section, and of whole sections one behind another.
use Rattle.std.proofs.Common.{◌≡◌, ◌≢◌, ◌∙◌, ℕ, ◌≤◌, Bool, true, false, cond, ◌||◌, not, nat_eq, nat_lt, List, [], ◌∷◌, ◌++◌, length, take, drop, Option, Some, None, refl, sym, ap, inl, inr, arith, append_assoc, length-append}
use Rattle.std.specs.List.{concat, AllByRecursion}
use Rattle.std.proofs.lemmas.Bool.{cases_lt, le-ltb, lt-ltb, ne_eqb, eq-eqb}
use Rattle.std.proofs.Math.Seq.{take-append_seam, drop-append_seam}
use Rattle.stream_syntax.specs.Tests.{byte_at}
use Rattle.psi_tables.specs.Sections.{is_cut, section_size, whole_section}
use Rattle.section_reader.specs.Sections.{Ended, following, grown, none_ended, section_or_hand, started}
use Rattle.section_reader.proofs.FollowingLaws.{following_same, follows_cut, follows_section, whole_is}
use Rattle.cut_section_laws.specs.SectionCuts.{IsWholeSection, IsStuffing, pointed}

-- ---- the length of a section

-- a section has three bytes at least, and as many as they say
record IsSized (section : List ℕ) : Type 0 where
  long : 3 ≤ length section
  count : section_size section ≡ length section

sized : (section : List ℕ) → IsWholeSection section → IsSized section
sized section is =
    let whole = whole_is section section is.whole in
    record { long = omega (arith, whole.count); count = sym whole.count }

-- the first three bytes say how many there are
pub same_size : (front rest : List ℕ) → 3 ≤ length front → section_size (front ++ rest) ≡ section_size front
same_size (a ∷ b ∷ c ∷ front) rest long = refl
same_size front rest long = absurd (omega arith)

first_test : (a b : Bool) → a ≡ true → (a || b) ≡ true
first_test true b e = refl
first_test false b e = absurd cc

second_test : (a b : Bool) → b ≡ true → (a || b) ≡ true
second_test true b e = refl
second_test false b e = e

pub no_test : (a b : Bool) → a ≡ false → b ≡ false → (a || b) ≡ false
no_test true b e f = absurd cc
no_test false b e f = f

-- a prefix that is not all of a section is no whole one
pub front_is_cut : (front rest : List ℕ) → IsWholeSection (front ++ rest) → 1 ≤ length rest → whole_section front ≡ None
front_is_cut front rest is some =
    let size = sized (front ++ rest) is in
    let lengths = length-append front rest in
    let cut : is_cut front ≡ true =
    elim (cases_lt (length front) 3) [
      | inl short ↦ first_test (nat_lt (length front) 3) (nat_lt (length front) (section_size front))
          (lt-ltb (length front) 3 short)
      | inr long ↦ second_test (nat_lt (length front) 3) (nat_lt (length front) (section_size front))
          (lt-ltb (length front) (section_size front) (omega (arith, same_size front rest long, size.count)))
    ] in
    ap (λ (b : Bool). cond b None (Some (take (section_size front) front))) cut

-- a section is the whole one of the bytes that it begins
pub section_is_whole : (section rest : List ℕ) → IsWholeSection section
    → whole_section (section ++ rest) ≡ Some section
section_is_whole section rest is =
    let size = sized section is in
    let lengths = length-append section rest in
    let same : section_size (section ++ rest) ≡ length section = same_size section rest size.long ∙ size.count in
    let cut : is_cut (section ++ rest) ≡ false =
    no_test (nat_lt (length (section ++ rest)) 3) (nat_lt (length (section ++ rest)) (section_size (section ++ rest)))
    (le-ltb (length (section ++ rest)) 3 (omega (arith, size.long)))
    (le-ltb (length (section ++ rest)) (section_size (section ++ rest)) (omega arith)) in
    ap (λ (b : Bool). cond b None (Some (take (section_size (section ++ rest)) (section ++ rest)))) cut
    ∙ ap (λ (n : ℕ). Some (take n (section ++ rest))) same
    ∙ ap (λ (l : List ℕ). Some l) (take-append_seam section rest)

-- ---- the section in hand

-- a prefix with a further piece that is not the last
pub piece_grows : (front piece rest : List ℕ) → IsWholeSection ((front ++ piece) ++ rest) → 1 ≤ length rest
    → grown (Some front) piece ≡ record { sections = []; hand = Some (front ++ piece) }
piece_grows front piece rest is some =
    ap (λ (w : Option (List ℕ)). section_or_hand (front ++ piece) w) (front_is_cut (front ++ piece) rest is some)

-- a prefix with the last piece, whatever is behind it
pub piece_ends : (front piece rest : List ℕ) → IsWholeSection (front ++ piece)
    → grown (Some front) (piece ++ rest) ≡ record { sections = (front ++ piece) ∷ []; hand = None }
piece_ends front piece rest is =
    ap (λ (w : Option (List ℕ)). section_or_hand (front ++ (piece ++ rest)) w)
    (ap whole_section (sym (append_assoc front piece rest)) ∙ section_is_whole (front ++ piece) rest is)

-- at most one section ends
pub one_at_most : (hand : Option (List ℕ)) (more : List ℕ) → length (grown hand more).sections ≤ 1
one_at_most None more = omega arith
one_at_most (Some bytes) more = by (whole_section (bytes ++ more))
  where
    by : (whole : Option (List ℕ)) → length (section_or_hand (bytes ++ more) whole).sections ≤ 1
    by None = omega arith
    by (Some section) = omega arith

-- ---- sections one behind another

abbrev pub all_in : List ℕ → Ended
all_in bytes = following (length bytes) bytes

-- bytes that a section begins begin with its table_id
front_begins : (byte : ℕ) (front rest : List ℕ) → byte_at 0 ((byte ∷ front) ++ rest) ≢ 255
    → not (nat_eq byte 255) ≡ true
front_begins byte front rest named = ap not (ne_eqb byte 255 named)

-- a prefix of a section that nothing is behind
pub front_in : (front rest : List ℕ) → IsWholeSection (front ++ rest) → 1 ≤ length front → 1 ≤ length rest
    → all_in front ≡ record { sections = []; hand = Some front }
front_in [] rest is begun some = absurd (omega arith)
front_in (byte ∷ front) rest is begun some =
    follows_cut (byte ∷ front) (front_begins byte front rest is.named) (front_is_cut (byte ∷ front) rest is some)

-- a section and what is behind it
section_in : (section rest : List ℕ) → IsWholeSection section
    → all_in (section ++ rest)
    ≡ record { sections = section ∷ (all_in rest).sections; hand = (all_in rest).hand }
section_in [] rest is = absurd (omega (arith, (sized [] is).long))
section_in (byte ∷ section) rest is =
    follows_section ((byte ∷ section) ++ rest) (byte ∷ section) (front_begins byte section [] (λ e. is.named e))
    (section_is_whole (byte ∷ section) rest is)
    ∙ ap (λ (l : List ℕ). record { sections = (byte ∷ section) ∷ (all_in l).sections; hand = (all_in l).hand })
    (drop-append_seam (byte ∷ section) rest)

-- sections and what is behind them
pub sections_in : (sections : List (List ℕ)) (rest : List ℕ) → AllByRecursion IsWholeSection sections
    → all_in (concat sections ++ rest)
    ≡ record { sections = sections ++ (all_in rest).sections; hand = (all_in rest).hand }
sections_in [] rest all = refl
sections_in (section ∷ sections) rest all =
    ap all_in (append_assoc section (concat sections) rest)
    ∙ section_in section (concat sections ++ rest) all.0
    ∙ ap (λ (e : Ended). record { sections = section ∷ e.sections; hand = e.hand }) (sections_in sections rest all.1)

-- in stuffing there is none
pub nothing_in : (bytes : List ℕ) → IsStuffing bytes → all_in bytes ≡ none_ended
nothing_in [] stuffing = refl
nothing_in (byte ∷ bytes) (inl none) = absurd cc
nothing_in (byte ∷ bytes) (inr stuffing) = by (nat_eq byte 255) (eq-eqb byte 255 stuffing) _
  where
    by : (b : Bool) → b ≡ true → (e : Ended) → cond b none_ended e ≡ none_ended
    by true f e = refl
    by false f e = absurd cc

-- ---- behind a pointer

pub pointed_is : (hand : Option (List ℕ)) (passed bytes : List ℕ)
    → started hand (pointed passed bytes)
    ≡ record {
      sections = (grown hand passed).sections ++ (all_in bytes).sections;
      hand = (all_in bytes).hand;
    }
pointed_is hand passed bytes =
    let lengths = length-append passed bytes in
    let within : nat_lt (length (passed ++ bytes)) (length passed) ≡ false =
    le-ltb (length (passed ++ bytes)) (length passed) (omega arith) in
    ap (λ (b : Bool). cond b none_ended (record {
      sections = (grown hand (take (length passed) (passed ++ bytes))).sections
          ++ (following (length (passed ++ bytes)) (drop (length passed) (passed ++ bytes))).sections;
      hand = (following (length (passed ++ bytes)) (drop (length passed) (passed ++ bytes))).hand;
    })) within
    ∙ ap (λ (l : List ℕ). record {
      sections = (grown hand l).sections
          ++ (following (length (passed ++ bytes)) (drop (length passed) (passed ++ bytes))).sections;
      hand = (following (length (passed ++ bytes)) (drop (length passed) (passed ++ bytes))).hand;
    }) (take-append_seam passed bytes)
    ∙ ap (λ (l : List ℕ). record {
      sections = (grown hand passed).sections ++ (following (length (passed ++ bytes)) l).sections;
      hand = (following (length (passed ++ bytes)) l).hand;
    }) (drop-append_seam passed bytes)
    ∙ ap (λ (e : Ended). record { sections = (grown hand passed).sections ++ e.sections; hand = e.hand })
    (following_same (length (passed ++ bytes)) (length bytes) bytes (omega arith) (omega arith))
