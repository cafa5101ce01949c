-- Bytes that begin a section and are not all of it: they can be completed, and more bytes end it or do not.
use Rattle.std.proofs.Common.{◌≡◌, ◌≢◌, ◌∙◌, ℕ, zero, suc, ◌-◌, ◌<◌, ◌≤◌, Bool, true, false, cond, ◌||◌, nat_eq, nat_lt, List, [], ◌∷◌, ◌++◌, length, take, drop, replicate, Option, Some, None, refl, sym, ap, subst, inl, inr, arith, append_assoc, length-append, length-drop}
use Rattle.std.specs.List.{concat}
use Rattle.std.proofs.lemmas.Bool.{cases_lt, eqb-true, le-ltb}
use Rattle.std.proofs.lemmas.Bool.Decides.{nat_tests}
use Rattle.std.proofs.lemmas.List.{length-replicate, take-append-drop, take_all}
use Rattle.std.proofs.Math.Seq.{drop-append_seam}
use Rattle.stream_syntax.specs.Tests.{byte_at}
use Rattle.psi_tables.specs.Sections.{is_cut, section_size, whole_section}
use Rattle.section_reader.specs.Sections.{following, none_ended, with_section}
use Rattle.section_reader.proofs.FollowingLaws.{whole_is}
use Rattle.cut_section_laws.specs.LaidSections.{Closed, Open, Progress, Stand, to_the_end, up_to_a_front}
use Rattle.cut_section_laws.specs.SectionCuts.{IsWholeSection}
use Rattle.cut_section_laws.proofs.WholeSections.{no_test, same_size}

-- ---- prefixes

pub record IsFront (bytes : List ℕ) : Type 0 where
  pub named : byte_at 0 bytes ≢ 255
  pub some : 1 ≤ length bytes
  pub cut : whole_section bytes ≡ None

same_first : (front rest : List ℕ) → 1 ≤ length front → byte_at 0 (front ++ rest) ≡ byte_at 0 front
same_first [] rest some = absurd (omega arith)
same_first (byte ∷ front) rest some = refl

-- as many bytes as they say are a section
whole_by_size : (section : List ℕ) → 3 ≤ length section → section_size section ≡ length section
    → whole_section section ≡ Some section
whole_by_size section long size =
    let cut : is_cut section ≡ false =
    no_test (nat_lt (length section) 3) (nat_lt (length section) (section_size section))
    (le-ltb (length section) 3 long) (le-ltb (length section) (section_size section) (omega (arith, size))) in
    ap (λ (b : Bool). cond b None (Some (take (section_size section) section))) cut
    ∙ ap (λ (l : List ℕ). Some l) (take_all (section_size section) section (omega (arith, size)))

cut_is : (cut : Bool) (all : List ℕ) → cond cut None (Some all) ≡ None → cut ≡ true
cut_is true all e = refl
cut_is false all e = absurd cc

too_few : (count size : ℕ) → (nat_lt count 3 || nat_lt count size) ≡ true → 3 ≤ count → count < size
too_few count size e long = grind (arith, nat_tests)

-- a prefix that says how many bytes there are to be has fewer
says_more : (front : List ℕ) → IsFront front → 3 ≤ length front → length front < section_size front
says_more front is long =
    too_few (length front) (section_size front)
    (cut_is (is_cut front) (take (section_size front) front) is.cut) long

-- ---- completed

-- with this more it is a section
record Completed (front more : List ℕ) : Type 0 where
  is : IsWholeSection (front ++ more)
  some : 1 ≤ length more

long_front : (front : List ℕ) → byte_at 0 front ≢ 255 → 3 ≤ length front → length front < section_size front
    → Completed front (replicate (section_size front - length front) 0)
long_front front named long less =
    let more : List ℕ = replicate (section_size front - length front) 0 in
    let count : length more ≡ section_size front - length front =
    length-replicate {A = ℕ} (section_size front - length front) 0 in
    let lengths = length-append front more in
    record {
      is = record {
        whole = whole_by_size (front ++ more) (omega arith) (same_size front more long ∙ omega arith);
        named = λ e. named (sym (same_first front more (omega arith)) ∙ e);
      };
      some = omega arith;
    }

pub completed : (front : List ℕ) → IsFront front
    → (more : List ℕ) × IsWholeSection (front ++ more) × (1 ≤ length more)
completed [] is = absurd (omega (arith, is.some))
completed (a ∷ []) is = (0 ∷ 0 ∷ [], record { whole = refl; named = is.named }, omega arith)
completed (a ∷ b ∷ []) is =
    elim (cases_lt 3 (section_size (a ∷ b ∷ 0 ∷ []))) [
      | inl less ↦
          let rest = long_front (a ∷ b ∷ 0 ∷ []) is.named (omega arith) less in (
            0 ∷ replicate (section_size (a ∷ b ∷ 0 ∷ []) - 3) 0,
            rest.is,
            omega arith,
          )
      | inr all ↦ (
        0 ∷ [],
        record {
          whole = whole_by_size (a ∷ b ∷ 0 ∷ []) (omega arith) (omega (arith, all));
          named = is.named;
        },
        omega arith,
      )
    ]
completed (a ∷ b ∷ c ∷ front) is =
    let rest =
    long_front (a ∷ b ∷ c ∷ front) is.named (omega arith) (says_more (a ∷ b ∷ c ∷ front) is (omega arith)) in (
      replicate (section_size (a ∷ b ∷ c ∷ front) - length (a ∷ b ∷ c ∷ front)) 0,
      rest.is,
      rest.some,
    )

-- ---- a section at the front of bytes

pub record Splits (bytes section : List ℕ) : Type 0 where
  pub rest : List ℕ
  pub bytes_are : bytes ≡ section ++ rest
  pub is : IsWholeSection section
  pub long : 3 ≤ length section

pub splits : (bytes section : List ℕ) → byte_at 0 bytes ≢ 255 → whole_section bytes ≡ Some section
    → Splits bytes section
splits bytes section named found =
    let whole = whole_is bytes section found in
    let rest = drop (section_size bytes) bytes in
    let bytes_are : bytes ≡ section ++ rest =
    sym (take-append-drop (section_size bytes) bytes) ∙ ap (λ (l : List ℕ). l ++ rest) (sym whole.is) in
    let long : 3 ≤ length section = omega (arith, whole.count) in
    record {
      rest = rest;
      bytes_are = bytes_are;
      is = record {
        whole = whole_by_size section long
            (sym (same_size section rest long) ∙ ap section_size (sym bytes_are) ∙ sym whole.count);
        named = λ e. named (ap (byte_at 0) bytes_are ∙ same_first section rest (omega (arith, long)) ∙ e);
      };
      long = long;
    }

-- ---- a prefix with more bytes

-- bytes before a seam are those of both sides
seam : (front section more rest : List ℕ) → front ++ more ≡ section ++ rest → length front ≤ length section
    → (owed : List ℕ) × (front ++ owed ≡ section) × (more ≡ owed ++ rest)
seam [] section more rest same within = (section, refl, same)
seam (a ∷ front) [] more rest same within = absurd (omega arith)
seam (a ∷ front) (b ∷ section) more rest same within =
    let tails : front ++ more ≡ section ++ rest = cc in
    let heads : a ≡ b = cc in
    let found = seam front section more rest tails (omega arith) in
    (found.0, (λ i. heads i ∷ found.1 i), found.2)

-- the section that begins them ends in these bytes
pub record Ends (front more section : List ℕ) : Type 0 where
  pub owed : List ℕ
  pub rest : List ℕ
  pub section_is : front ++ owed ≡ section
  pub more_is : more ≡ owed ++ rest
  pub is : IsWholeSection (front ++ owed)
  pub some : 1 ≤ length owed

pub ends : (front more section : List ℕ) → IsFront front → whole_section (front ++ more) ≡ Some section
    → Ends front more section
ends front more section is found =
    let named : byte_at 0 (front ++ more) ≢ 255 = λ e. is.named (sym (same_first front more is.some) ∙ e) in
    let all = splits (front ++ more) section named found in
    let shorter : length front < length section =
    elim (cases_lt (length front) 3) [
      | inl short ↦ omega (arith, all.long)
      | inr long ↦
          let less = says_more front is long in
          let whole = whole_is (front ++ more) section found in
          omega (arith, less, same_size front more long, whole.count)
    ] in
    let found = seam front section more all.rest all.bytes_are (omega (arith, shorter)) in
    let lengths = length-append front found.0 in
    let Is : List ℕ → Type 0 = λ l. IsWholeSection l in
    record {
      owed = found.0;
      rest = all.rest;
      section_is = found.1;
      more_is = found.2;
      is = subst Is (sym found.1) all.is;
      some = omega (arith, shorter, ap length found.1);
    }

-- it does not
pub grows_on : (front more : List ℕ) → IsFront front → whole_section (front ++ more) ≡ None
    → IsFront (front ++ more)
grows_on front more is cut =
    let lengths = length-append front more in
    record {
      named = λ e. is.named (sym (same_first front more is.some) ∙ e);
      some = omega (arith, is.some);
      cut = cut;
    }

-- ---- bytes behind a pointer

-- these sections stand there, and then the front of one or none
abbrev pub Found : List ℕ → List (List ℕ) → Option (List ℕ) → Type 0
Found bytes sections None = Stand bytes sections Closed
Found bytes sections (Some front) =
    IsFront front
    × ((owed : List ℕ) → IsWholeSection (front ++ owed) → 1 ≤ length owed → Stand bytes sections (Open front owed))

one_before : {bytes rest section : List ℕ} → {sections : List (List ℕ)} → {next : Progress}
    → bytes ≡ section ++ rest → IsWholeSection section → Stand rest sections next
    → Stand bytes (section ∷ sections) next
one_before {section} {sections} bytes is (to_the_end rest are all stuffing) =
    to_the_end rest
    (bytes ∙ ap (λ (l : List ℕ). section ++ l) are ∙ sym (append_assoc section (concat sections) rest)) (is, all)
    stuffing
one_before {section} {sections} bytes is (up_to_a_front front owed are all front_is some more) =
    up_to_a_front front owed
    (bytes ∙ ap (λ (l : List ℕ). section ++ l) are ∙ sym (append_assoc section (concat sections) front)) (is, all)
    front_is some more

found_before : (bytes rest section : List ℕ) (sections : List (List ℕ)) (hand : Option (List ℕ))
    → bytes ≡ section ++ rest → IsWholeSection section → Found rest sections hand
    → Found bytes (section ∷ sections) hand
found_before bytes rest section sections None are is stand = one_before are is stand
found_before bytes rest section sections (Some front) are is found =
    (found.0, λ owed whole some. one_before are is (found.1 owed whole some))

pub found_in : (most : ℕ) (bytes : List ℕ) → length bytes ≤ most
    → Found bytes (following most bytes).sections (following most bytes).hand
found_in zero [] within = to_the_end [] refl tt (inl refl)
found_in zero (byte ∷ bytes) within = absurd (omega arith)
found_in (suc most) [] within = to_the_end [] refl tt (inl refl)
found_in (suc most) (byte ∷ bytes) within =
    by (nat_eq byte 255) refl (whole_section (byte ∷ bytes)) refl
    (λ rest below. found_in most rest below)
  where
    section_first : (section : List ℕ) → byte ≢ 255 → whole_section (byte ∷ bytes) ≡ Some section
        → ((rest : List ℕ) → length rest ≤ most
        → Found rest (following most rest).sections (following most rest).hand)
        → Found (byte ∷ bytes) (section ∷ (following most (drop (length section) (byte ∷ bytes))).sections)
        (following most (drop (length section) (byte ∷ bytes))).hand
    section_first section named whole behind =
        let all = splits (byte ∷ bytes) section named whole in
        let rest = drop (length section) (byte ∷ bytes) in
        let same : rest ≡ all.rest =
        ap (drop (length section)) all.bytes_are ∙ drop-append_seam section all.rest in
        found_before (byte ∷ bytes) rest section (following most rest).sections (following most rest).hand
        (all.bytes_are ∙ ap (λ (l : List ℕ). section ++ l) (sym same)) all.is
        (behind rest
        (omega (arith, length-drop (length section) (byte ∷ bytes), all.long, within)))

    by : (stuffing : Bool) → nat_eq byte 255 ≡ stuffing → (whole : Option (List ℕ))
        → whole_section (byte ∷ bytes) ≡ whole
        → ((rest : List ℕ) → length rest ≤ most
        → Found rest (following most rest).sections (following most rest).hand)
        → Found (byte ∷ bytes)
        (cond stuffing none_ended (with_section (following most) (byte ∷ bytes) whole)).sections
        (cond stuffing none_ended (with_section (following most) (byte ∷ bytes) whole)).hand
    by true is whole found behind = to_the_end (byte ∷ bytes) refl tt (inr (eqb-true byte 255 is))
    by false is None found behind =
        let named : byte ≢ 255 = λ e. other is e in (
          record { named = named; some = omega arith; cut = found },
          λ owed whole some. up_to_a_front (byte ∷ bytes) owed refl tt whole (omega arith) some,
        )
      where
        other : nat_eq byte 255 ≡ false → byte ≢ 255
        other e same = absurd cc
    by false is (Some section) found behind =
        section_first section (λ e. absurd cc) found behind
