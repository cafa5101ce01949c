-- Pages in rising order, and entries with one segment more.
use Rattle.std.proofs.Common.{◌≡◌, ℕ, zero, suc, ◌+◌, ◌<◌, ◌≤◌, ◌==◌, ◌∙◌, inl, inr, nat_lt, Bool, true, false, ◌||◌, if◌then◌else◌, List, [], ◌∷◌, ◌++◌, length, map, take, ap, arith, refl, sym, subst}
use Rattle.std.specs.List.{AllByRecursion}
use Rattle.std.proofs.lemmas.Bool.Decides.{eqb_tells, leb_tells, nat_tests}
use Rattle.stream_syntax.specs.declared.wire.TheConstants.{CLUT_DEFINITION, OBJECT_DATA, PAGE_COMPOSITION}
use Rattle.pid_text.specs.PidText.{AreRising, is_in}
use Rattle.pid_text.specs.PidUnits.{Head}
use Rattle.pid_text.specs.Private.Listing.{closed, fresh, noted, pages_of, with_segment}
use Rattle.pid_text.specs.declared.page_tally.PageTally.{PageTally}

-- ---- lists

pub all_weaker : {X : Type 0} (P Q : X → Type 0) (xs : List X) → ((x : X) → P x → Q x) → AllByRecursion P xs
    → AllByRecursion Q xs
all_weaker P Q [] weaker each = tt
all_weaker P Q (x ∷ xs) weaker each = (weaker x each.0, all_weaker P Q xs weaker each.1)

pub all_take : {X : Type 0} (P : X → Type 0) (n : ℕ) (xs : List X) → AllByRecursion P xs
    → AllByRecursion P (take n xs)
all_take P zero xs each = tt
all_take P (suc n) [] each = tt
all_take P (suc n) (x ∷ xs) each = (each.0, all_take P n xs each.1)

pub all_of_map : {X Y : Type 0} (P : Y → Type 0) (f : X → Y) (xs : List X) → AllByRecursion P (map f xs)
    → AllByRecursion (λ x. P (f x)) xs
all_of_map P f [] each = tt
all_of_map P f (x ∷ xs) each = (each.0, all_of_map P f xs each.1)

pub all_map : {X Y : Type 0} (P : Y → Type 0) (f : X → Y) (xs : List X) → AllByRecursion (λ x. P (f x)) xs
    → AllByRecursion P (map f xs)
all_map P f [] each = tt
all_map P f (x ∷ xs) each = (each.0, all_map P f xs each.1)

-- what holds of all pages holds of one among them
pub all_in : (P : ℕ → Type 0) (page : ℕ) (pages : List ℕ) → AllByRecursion P pages → is_in page pages ≡ true
    → P page
all_in P page [] each is = absurd cc
all_in P page (other ∷ pages) each is =
    elim (eqb_tells other page) [
      | inl same ↦ subst P same.1 each.0
      | inr apart ↦ all_in P page pages each.1 (grind (arith, nat_tests))
    ]

pub in_take : (page n : ℕ) (pages : List ℕ) → is_in page pages ≡ false → is_in page (take n pages) ≡ false
in_take page zero pages out = refl
in_take page (suc n) [] out = refl
in_take page (suc n) (other ∷ pages) out =
    let rest : is_in page pages ≡ false = grind (arith, nat_tests) in
    let behind : is_in page (take n pages) ≡ false = in_take page n pages rest in
    let apart : (other == page) ≡ false = grind (arith, nat_tests) in
    grind (arith, nat_tests)

-- ---- rising order

pub rising_take : (n : ℕ) (pages : List ℕ) → AreRising pages → AreRising (take n pages)
rising_take zero pages rising = tt
rising_take (suc n) [] rising = tt
rising_take (suc n) (page ∷ pages) rising =
    (all_take (λ later. page < later) n pages rising.0, rising_take n pages rising.1)

-- a page that is not among the first ones is higher than these
pub higher_than_first : (page n : ℕ) (pages : List ℕ) → AreRising pages → is_in page pages ≡ true
    → is_in page (take n pages) ≡ false → AllByRecursion (λ told. told < page) (take n pages)
higher_than_first page zero pages rising is out = tt
higher_than_first page (suc n) [] rising is out = tt
higher_than_first page (suc n) (first ∷ pages) rising is out =
    let apart : (first == page) ≡ false = grind (arith, nat_tests) in
    let rest : is_in page pages ≡ true = grind (arith, nat_tests) in
    let left : is_in page (take n pages) ≡ false = grind (arith, nat_tests) in
    (all_in (λ later. first < later) page pages rising.0 rest, higher_than_first page n pages rising.1 rest left)

-- of more pages than these some are not among the first ones
pub some_dropped : (n : ℕ) (pages : List ℕ) → AreRising pages → n < length pages
    → (page : ℕ) × (is_in page pages ≡ true) × (is_in page (take n pages) ≡ false)
some_dropped zero [] rising more = absurd (omega arith)
some_dropped zero (page ∷ pages) rising more =
    let same : (page == page) ≡ true = grind (arith, nat_tests) in (page, grind (arith, nat_tests), refl)
some_dropped (suc n) [] rising more = absurd (omega arith)
some_dropped (suc n) (first ∷ pages) rising more =
    let rest = some_dropped n pages rising.1 (omega arith) in
    let above : first < rest.0 = all_in (λ later. first < later) rest.0 pages rising.0 rest.1 in
    let apart : (first == rest.0) ≡ false = grind (arith, nat_tests) in
    let is = rest.1 in
    let out = rest.2 in
    (rest.0, grind (arith, nat_tests), grind (arith, nat_tests))

-- ---- one segment more

page_of_either : (b : Bool) (one other : PageTally) (page : ℕ) → one.page ≡ page → other.page ≡ page
    → (if b then one else other).page ≡ page
page_of_either true one other page first second = first
page_of_either false one other page first second = second

pub segment_page : (kind : ℕ) (entry : PageTally) → (with_segment kind entry).page ≡ entry.page
segment_page kind entry =
    page_of_either (kind == PAGE_COMPOSITION) _ _ entry.page refl
    (page_of_either (kind == CLUT_DEFINITION || kind == OBJECT_DATA) _ entry entry.page refl refl)

pub closed_page : (entry : PageTally) → (closed entry).page ≡ entry.page
closed_page entry = page_of_either entry.is_composed _ _ entry.page refl refl

-- where a segment goes, by the first entry
pub noted_by_first : (head : Head) (entry : PageTally) (entries : List PageTally) (Q : List PageTally → Type 0)
    → (entry.page < head.page → Q (entry ∷ noted head entries))
    → (entry.page ≡ head.page → Q (with_segment head.kind entry ∷ entries))
    → (head.page < entry.page → Q (with_segment head.kind (fresh head.page) ∷ entry ∷ entries))
    → Q (noted head (entry ∷ entries))
unfolding noted
noted_by_first head entry entries Q behind here before =
    elim (leb_tells (suc entry.page) head.page) [
      | inl low ↦ subst Q (sym (lower low.0)) (behind low.1)
      | inr high ↦ elim (eqb_tells entry.page head.page) [
        | inl same ↦ subst Q (sym (at high.0 same.0)) (here same.1)
        | inr apart ↦ subst Q (sym (above high.0 apart.0)) (before (omega (arith, high.1, apart.1)))
      ]
    ]
  where
    all : List PageTally
    all = noted head (entry ∷ entries)

    lower : nat_lt entry.page head.page ≡ true
        → (if nat_lt entry.page head.page then entry ∷ noted head entries
        else if entry.page == head.page then with_segment head.kind entry ∷ entries
        else with_segment head.kind (fresh head.page) ∷ entry ∷ entries) ≡ entry ∷ noted head entries
    lower low = rw low refl

    at : nat_lt entry.page head.page ≡ false → (entry.page == head.page) ≡ true
        → (if nat_lt entry.page head.page then entry ∷ noted head entries
        else if entry.page == head.page then with_segment head.kind entry ∷ entries
        else with_segment head.kind (fresh head.page) ∷ entry ∷ entries) ≡ with_segment head.kind entry ∷ entries
    at high same = rw (high, same) refl

    above : nat_lt entry.page head.page ≡ false → (entry.page == head.page) ≡ false
        → (if nat_lt entry.page head.page then entry ∷ noted head entries
        else if entry.page == head.page then with_segment head.kind entry ∷ entries
        else with_segment head.kind (fresh head.page) ∷ entry ∷ entries)
        ≡ with_segment head.kind (fresh head.page) ∷ entry ∷ entries
    above high apart = rw (high, apart) refl

pub fresh_page : (head : Head) → (with_segment head.kind (fresh head.page)).page ≡ head.page
fresh_page head = segment_page head.kind (fresh head.page)

-- what holds of all pages and of that of the segment
pub noted_all : (P : ℕ → Type 0) (head : Head) (entries : List PageTally) → P head.page
    → AllByRecursion P (pages_of entries) → AllByRecursion P (pages_of (noted head entries))
noted_all P head [] is each = unfold noted in (subst P (sym (fresh_page head)) is, tt)
noted_all P head (entry ∷ entries) is each =
    noted_by_first head entry entries (λ all. AllByRecursion P (pages_of all))
    (λ low. (each.0, noted_all P head entries is each.1))
    (λ same. (subst P (sym (segment_page head.kind entry)) each.0, each.1))
    (λ high. (subst P (sym (fresh_page head)) is, each))

pub noted_rising : (head : Head) (entries : List PageTally) → AreRising (pages_of entries)
    → AreRising (pages_of (noted head entries))
noted_rising head [] rising = unfold noted in (tt, tt)
noted_rising head (entry ∷ entries) rising =
    noted_by_first head entry entries (λ all. AreRising (pages_of all))
    (λ low. (noted_all (λ later. entry.page < later) head entries low rising.0, noted_rising head entries rising.1))
    (λ same. (
      subst (λ page. AllByRecursion (λ later. page < later) (pages_of entries)) (sym (segment_page head.kind entry))
          rising.0,
      rising.1,
    ))
    (λ high. (
      subst (λ page. AllByRecursion (λ later. page < later) (pages_of (entry ∷ entries))) (sym (fresh_page head)) (
        high,
        all_weaker (λ later. entry.page < later) (λ later. head.page < later) (pages_of entries)
            (λ later above. omega (arith, above, high)) rising.0,
      ),
      rising,
    ))

pub noted_is_in : (head : Head) (page : ℕ) (entries : List PageTally)
    → is_in page (pages_of (noted head entries)) ≡ ((head.page == page) || is_in page (pages_of entries))
noted_is_in head page [] = unfold noted in ap (λ own. (own == page) || false) (fresh_page head)
noted_is_in head page (entry ∷ entries) =
    noted_by_first head entry entries
    (λ all. is_in page (pages_of all)
    ≡ ((head.page == page) || ((entry.page == page) || is_in page (pages_of entries))))
    (λ low. ap (λ rest. (entry.page == page) || rest) (noted_is_in head page entries)
    ∙ turned (entry.page == page) (head.page == page) (is_in page (pages_of entries)))
    (λ same. ap (λ own. (own == page) || is_in page (pages_of entries)) (segment_page head.kind entry ∙ same)
    ∙ doubled (head.page == page) (is_in page (pages_of entries))
    ∙ ap (λ own. (head.page == page) || ((own == page) || is_in page (pages_of entries))) (sym same))
    (λ high. ap (λ own. (own == page) || ((entry.page == page) || is_in page (pages_of entries))) (fresh_page head))
  where
    turned : (a b c : Bool) → (a || (b || c)) ≡ (b || (a || c))
    turned true true c = refl
    turned true false c = refl
    turned false b c = refl

    doubled : (a c : Bool) → (a || c) ≡ (a || (a || c))
    doubled true c = refl
    doubled false c = refl

pub record GrowsByOne (old new : ℕ) : Type 0 where
  pub least : old ≤ new
  pub most : new ≤ old + 1

pub noted_length : (head : Head) (entries : List PageTally) → GrowsByOne (length entries) (length (noted head entries))
noted_length head [] = unfold noted in record { least = omega arith; most = omega arith }
noted_length head (entry ∷ entries) =
    noted_by_first head entry entries (λ all. GrowsByOne (suc (length entries)) (length all))
    (λ low. let rest = noted_length head entries in
    record { least = omega (arith, rest.least); most = omega (arith, rest.most) })
    (λ same. record { least = omega arith; most = omega arith })
    (λ high. record { least = omega arith; most = omega arith })

-- a page that is higher than all comes last
pub noted_last : (head : Head) (entries : List PageTally) → AllByRecursion (λ entry. entry.page < head.page) entries
    → noted head entries ≡ entries ++ with_segment head.kind (fresh head.page) ∷ []
unfolding noted
noted_last head [] each = refl
noted_last head (entry ∷ entries) each =
    let below : entry.page < head.page = each.0 in
    let rest = noted_last head entries each.1 in
    grind (arith, nat_tests)
