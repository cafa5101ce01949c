-- CLUTs that two pages share: of two lists in rising order of their numbers, those that stand in both stand in one
-- order.
use Rattle.std.proofs.Common.{◌≡◌, ◌∙◌, ◌⊎◌, inl, inr, ℕ, ◌||◌, ◌<◌, Bool, true, false, cond, List, [], ◌∷◌, ◌/◌, ◌%◌, ◌^◌, drop, filter, get_or, refl, sym, ap, subst, arith}
use Rattle.std.specs.List.{AllByRecursion, AllZip}
use Rattle.std.specs.Str.{bytes_eq}
use Rattle.std.proofs.lemmas.Slice.Eq.{bytes_eq-Decides}
use Rattle.stream_syntax.specs.Segments.{SegmentValue, of_clut, spelled, IsWritable}
use Rattle.page_pair.specs.PairSets.{is_same_segment, has_clut}

-- ---- the bytes of a CLUT

-- the number of a CLUT
abbrev pub clut_number : SegmentValue → ℕ
clut_number (of_clut value) = value.clut
clut_number value = 0

-- the segment of a CLUT: its bytes on a page begin with a head on that page, and go on with the same whatever the page.
-- The first of these behind the length is the number of the CLUT
pub record IsClut (value : SegmentValue) : Type 0 where
  pub behind : List ℕ
  pub on_page : (page : ℕ) → page < 2 ^ 16
      → spelled page value ≡ 15 ∷ 0x12 ∷ page / 256 % 256 ∷ page % 256 ∷ behind
  pub number : get_or behind 2 0 ≡ clut_number value
  pub writable : (page : ℕ) → page < 2 ^ 16 → IsWritable page value

same_bytes : (one two : List ℕ) → bytes_eq one two ≡ true → one ≡ two
same_bytes one two e = (bytes_eq-Decides one two).0 e

-- segments that are equal but for the page go on with the same
same_behind : (one two : SegmentValue) (a : IsClut one) (b : IsClut two) → is_same_segment one two ≡ true
    → a.behind ≡ b.behind
same_behind one two a b same =
    ap (drop 4)
    (sym (a.on_page 0 (omega arith)) ∙ same_bytes (spelled 0 one) (spelled 0 two) same ∙ b.on_page 0 (omega arith))

same_number : (one two : SegmentValue) → IsClut one → IsClut two → is_same_segment one two ≡ true
    → clut_number one ≡ clut_number two
same_number one two a b same =
    sym a.number ∙ ap (λ bytes. get_or bytes 2 0) (same_behind one two a b same) ∙ b.number

pub same_on : (page : ℕ) (one two : SegmentValue) → page < 2 ^ 16 → IsClut one → IsClut two
    → is_same_segment one two ≡ true → spelled page one ≡ spelled page two
same_on page one two small a b same =
    a.on_page page small
    ∙ ap (λ behind. 15 ∷ 0x12 ∷ page / 256 % 256 ∷ page % 256 ∷ behind) (same_behind one two a b same)
    ∙ sym (b.on_page page small)

-- ---- lists in rising order

-- none of the CLUTs has a number up to this one
abbrev pub AreAbove : ℕ → List SegmentValue → Type 0
AreAbove number cluts = AllByRecursion (λ (clut : SegmentValue). number < clut_number clut) cluts

abbrev pub AreRising : List SegmentValue → Type 0
AreRising [] = Unit {0}
AreRising (clut ∷ cluts) = AreAbove (clut_number clut) cluts × AreRising cluts

other : (one two : SegmentValue) → IsClut one → IsClut two
    → (clut_number one ≡ clut_number two → ⊥) → is_same_segment one two ≡ false
other one two a b differ = by (is_same_segment one two) refl
  where
    by : (b : Bool) → is_same_segment one two ≡ b → b ≡ false
    by false e = refl
    by true e = absurd (differ (same_number one two a b e))

-- a CLUT stands in no list of CLUTs above it
none_above : (one : SegmentValue) (cluts : List SegmentValue) → IsClut one
    → AllByRecursion IsClut cluts → AreAbove (clut_number one) cluts → has_clut cluts one ≡ false
none_above one [] a all above = refl
none_above one (clut ∷ cluts) a all above =
    ap (λ b. b || has_clut cluts one) (other one clut a all.0 (λ same. omega (arith, same, above.0)))
    ∙ none_above one cluts a all.1 above.1

weaker : (least number : ℕ) (cluts : List SegmentValue) → least < number → AreAbove number cluts
    → AreAbove least cluts
weaker least number [] less above = tt
weaker least number (clut ∷ cluts) less above = (omega (arith, less, above.0), weaker least number cluts less above.1)

-- a CLUT that is below all of a list makes no difference to whether they stand in another list
without : (one : SegmentValue) (found cluts : List SegmentValue) → IsClut one
    → AllByRecursion IsClut cluts → AreAbove (clut_number one) cluts
    → filter (has_clut (one ∷ found)) cluts ≡ filter (has_clut found) cluts
without one found [] a all above = refl
without one found (clut ∷ cluts) a all above =
    ap (λ b. cond (b || has_clut found clut) (clut ∷ filter (has_clut (one ∷ found)) cluts)
    (filter (has_clut (one ∷ found)) cluts))
    (other clut one all.0 a (λ same. omega (arith, same, above.0)))
    ∙ ap (λ rest. cond (has_clut found clut) (clut ∷ rest) rest)
    (without one found cluts a all.1 above.1)

-- ---- what stands in both

-- each of the second list beside the one of the first that is equal but for the page
abbrev pub AreEqual : List SegmentValue → List SegmentValue → Type 0
AreEqual two one = AllZip (λ (b a : SegmentValue). is_same_segment b a ≡ true) two one

-- those of a list that stand in another
abbrev pub in_both : List SegmentValue → List SegmentValue → List SegmentValue
in_both one two = filter (has_clut two) one

turned : (one two : SegmentValue) → is_same_segment one two ≡ is_same_segment two one
turned one two = by (is_same_segment one two) (is_same_segment two one) refl refl
  where
    itself : (a b : List ℕ) → a ≡ b → bytes_eq b a ≡ false → ⊥
    itself a b e differ = clash (sym differ ∙ (bytes_eq-Decides b a).1 (sym e))
      where
        clash : false ≡ true → ⊥
        clash never = cc

    by : (b c : Bool) → is_same_segment one two ≡ b → is_same_segment two one ≡ c → b ≡ c
    by true true e f = refl
    by false false e f = refl
    by true false e f = absurd (itself (spelled 0 one) (spelled 0 two) (same_bytes _ _ e) f)
    by false true e f = absurd (itself (spelled 0 two) (spelled 0 one) (same_bytes _ _ f) e)

pub both_equal : (one two : List SegmentValue) → AllByRecursion IsClut one
    → AllByRecursion IsClut two → AreRising one → AreRising two
    → AreEqual (in_both two one) (in_both one two)
both_equal [] two known others rise more = none two
  where
    none : (two : List SegmentValue) → AreEqual (filter (has_clut []) two) []
    none [] = tt
    none (clut ∷ two) = none two
both_equal (a ∷ one) two known others rise more =
    by (λ two others more. both_equal one two known.1 others rise.1 more) two others more
  where
    Equal : List SegmentValue → List SegmentValue → Type 0
    Equal one two = AreEqual (in_both two one) (in_both one two)

    -- the first of the first list is below all of the second
    below : (two : List SegmentValue) → AllByRecursion IsClut two → AreAbove (clut_number a) two
        → Equal one two → Equal (a ∷ one) two
    below two others above rest =
        subst (AreEqual (in_both two (a ∷ one)))
        (sym (ap (λ b. cond b (a ∷ in_both one two) (in_both one two)) (none_above a two known.0 others above)))
        (subst (λ cluts. AreEqual cluts (in_both one two)) (sym (without a one two known.0 others above)) rest)

    -- the first of the second list is below all of the first
    over : (b : SegmentValue) (two : List SegmentValue) → IsClut b → AreAbove (clut_number b) (a ∷ one)
        → Equal (a ∷ one) two → Equal (a ∷ one) (b ∷ two)
    over b two is above rest =
        subst (λ cluts. AreEqual cluts (in_both (a ∷ one) (b ∷ two)))
        (sym (ap (λ c. cond c (b ∷ in_both two (a ∷ one)) (in_both two (a ∷ one)))
        (none_above b (a ∷ one) is known above)))
        (subst (AreEqual (in_both two (a ∷ one))) (sym (without b two (a ∷ one) is known above)) rest)

    -- both have one number
    level : (b : SegmentValue) (two : List SegmentValue) → IsClut b → AllByRecursion IsClut two
        → clut_number a ≡ clut_number b → AreAbove (clut_number b) two → Equal one two
        → Equal (a ∷ one) (b ∷ two)
    level b two is others same above rest =
        subst (AreEqual (in_both (b ∷ two) (a ∷ one))) (sym first)
        (subst (λ cluts. AreEqual cluts (cond (is_same_segment a b || false) (a ∷ in_both one two) (in_both one two)))
        (sym second) (joined (is_same_segment b a) refl))
      where
        a_above : AreAbove (clut_number a) two
        a_above = subst (λ (n : ℕ). AreAbove n two) (sym same) above

        b_above : AreAbove (clut_number b) one
        b_above = subst (λ (n : ℕ). AreAbove n one) same rise.0

        first : in_both (a ∷ one) (b ∷ two)
            ≡ cond (is_same_segment a b || false) (a ∷ in_both one two) (in_both one two)
        first =
            ap (λ rest. cond (is_same_segment a b || has_clut two a) (a ∷ rest) rest)
            (without b two one is known.1 b_above)
            ∙ ap (λ c. cond (is_same_segment a b || c) (a ∷ in_both one two) (in_both one two))
            (none_above a two known.0 others a_above)

        second : in_both (b ∷ two) (a ∷ one)
            ≡ cond (is_same_segment b a || false) (b ∷ in_both two one) (in_both two one)
        second =
            ap (λ rest. cond (is_same_segment b a || has_clut one b) (b ∷ rest) rest)
            (without a one two known.0 others a_above)
            ∙ ap (λ c. cond (is_same_segment b a || c) (b ∷ in_both two one) (in_both two one))
            (none_above b one is known.1 b_above)

        joined : (c : Bool) → is_same_segment b a ≡ c
            → AreEqual (cond (is_same_segment b a || false) (b ∷ in_both two one) (in_both two one))
            (cond (is_same_segment a b || false) (a ∷ in_both one two) (in_both one two))
        joined true e =
            let f : is_same_segment a b ≡ true = turned a b ∙ e in
            subst (λ (c : Bool). AreEqual (cond (c || false) (b ∷ in_both two one) (in_both two one))
            (cond (is_same_segment a b || false) (a ∷ in_both one two) (in_both one two))) (sym e)
            (subst (λ (c : Bool). AreEqual (b ∷ in_both two one)
            (cond (c || false) (a ∷ in_both one two) (in_both one two))) (sym f) (e, rest))
        joined false e =
            let f : is_same_segment a b ≡ false = turned a b ∙ e in
            subst (λ (c : Bool). AreEqual (cond (c || false) (b ∷ in_both two one) (in_both two one))
            (cond (is_same_segment a b || false) (a ∷ in_both one two) (in_both one two))) (sym e)
            (subst (λ (c : Bool). AreEqual (in_both two one)
            (cond (c || false) (a ∷ in_both one two) (in_both one two))) (sym f) rest)

    by : ((two : List SegmentValue) → AllByRecursion IsClut two → AreRising two → Equal one two)
        → (two : List SegmentValue) → AllByRecursion IsClut two → AreRising two → Equal (a ∷ one) two
    by rest [] others more = below [] tt tt (rest [] tt tt)
    by rest (b ∷ two) others more = split (grind arith) (by rest two others.1 more.1)
      where
        split : (clut_number a < clut_number b) ⊎ ((clut_number a ≡ clut_number b) ⊎ (clut_number b < clut_number a))
            → Equal (a ∷ one) two → Equal (a ∷ one) (b ∷ two)
        split (inl less) later =
            below (b ∷ two) others (less, weaker (clut_number a) (clut_number b) two less more.0)
            (rest (b ∷ two) others more)
        split (inr (inl same)) later = level b two others.0 others.1 same more.0 (rest two others.1 more.1)
        split (inr (inr less)) later =
            over b two others.0 (less, weaker (clut_number b) (clut_number a) one less rise.0) later
