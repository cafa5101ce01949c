-- Which segments of a set of two languages count for a receiver of the pages of one.
use Rattle.std.proofs.Common.{◌≡◌, ◌≢◌, ◌∙◌, ℕ, ◌==◌, ◌&&◌, ◌||◌, Bool, true, false, cond, List, [], ◌∷◌, map, filter, refl, ap, arith}
use Rattle.std.specs.List.{AllByRecursion, AllZip, list_any}
use Rattle.std.proofs.lemmas.Bool.Decides.{nat_tests}
use Rattle.stream_syntax.specs.Segments.{SegmentValue, of_page, of_region, of_clut, of_object, of_display, end_of_set, passed_over, segment_kind, set_kinds, IsWritable}
use Rattle.decoder_model.specs.Frames.{is_of_pages, shared_kinds}
use Rattle.decoder_model.specs.declared.pages.Pages.{Pages}
use Rattle.shown_stream.specs.SentPlan.{IsWrittenAs}
use Rattle.page_pair.specs.PairSets.{Paged, on, paged_bytes}
use Rattle.page_pair.proofs.PagedBytes.{head_kind, head_page}

-- ---- tests

-- a segment of one of these types on that page
abbrev is_on : List ℕ → ℕ → Paged → Bool
is_on kinds page one = (one.page == page) && list_any (λ kind. segment_kind one.value == kind) kinds

-- a segment of the composition page, or a CLUT or an object of the ancillary page
abbrev pub counts : Pages → Paged → Bool
counts pages one = is_on set_kinds pages.composition one || is_on shared_kinds pages.ancillary one

-- the segment can be written on its page
abbrev pub IsFit : Paged → Type 0
IsFit one = IsWritable one.page one.value

counts_bytes : (pages : Pages) (one : Paged) → IsFit one → is_of_pages pages (paged_bytes one) ≡ counts pages one
counts_bytes pages one fit =
    let kind = head_kind one.page one.value fit in
    let page = head_page one.page one.value fit in
    λ i. ((page i == pages.composition) && list_any (λ k. kind i == k) set_kinds)
    || ((page i == pages.ancillary) && list_any (λ k. kind i == k) shared_kinds)

-- the bytes that count are those of the segments that do
pub counted_bytes : (pages : Pages) (segments : List Paged) → AllByRecursion IsFit segments
    → filter (is_of_pages pages) (map paged_bytes segments) ≡ map paged_bytes (filter (counts pages) segments)
counted_bytes pages [] fit = refl
counted_bytes pages (one ∷ segments) fit =
    ap (λ rest. cond (is_of_pages pages (paged_bytes one)) (paged_bytes one ∷ rest) rest)
    (counted_bytes pages segments fit.1)
    ∙ ap (λ b. cond b (paged_bytes one ∷ map paged_bytes (filter (counts pages) segments))
    (map paged_bytes (filter (counts pages) segments))) (counts_bytes pages one fit.0)
    ∙ by (counts pages one)
  where
    by : (b : Bool)
        → cond b (paged_bytes one ∷ map paged_bytes (filter (counts pages) segments))
        (map paged_bytes (filter (counts pages) segments))
        ≡ map paged_bytes (cond b (one ∷ filter (counts pages) segments) (filter (counts pages) segments))
    by true = refl
    by false = refl

-- ---- values of the types of a set

-- a segment of a page, of whatever type but those that are passed over
abbrev pub IsOfSet : SegmentValue → Type 0
IsOfSet (of_page value) = Unit {0}
IsOfSet (of_region value) = Unit {0}
IsOfSet (of_clut value) = Unit {0}
IsOfSet (of_object value) = Unit {0}
IsOfSet (of_display value) = Unit {0}
IsOfSet end_of_set = Unit {0}
IsOfSet passed_over = ⊥

-- a CLUT or an object
abbrev pub IsShareable : SegmentValue → Type 0
IsShareable (of_page value) = ⊥
IsShareable (of_region value) = ⊥
IsShareable (of_clut value) = Unit {0}
IsShareable (of_object value) = Unit {0}
IsShareable (of_display value) = ⊥
IsShareable end_of_set = ⊥
IsShareable passed_over = ⊥

set_kind : (value : SegmentValue) → IsOfSet value
    → list_any (λ kind. segment_kind value == kind) set_kinds ≡ true
set_kind (of_page value) h = refl
set_kind (of_region value) h = refl
set_kind (of_clut value) h = refl
set_kind (of_object value) h = refl
set_kind (of_display value) h = refl
set_kind end_of_set h = refl
set_kind passed_over h = absurd h

shared_kind : (value : SegmentValue) → IsShareable value
    → list_any (λ kind. segment_kind value == kind) shared_kinds ≡ true
shared_kind (of_page value) h = absurd h
shared_kind (of_region value) h = absurd h
shared_kind (of_clut value) h = refl
shared_kind (of_object value) h = refl
shared_kind (of_display value) h = absurd h
shared_kind end_of_set h = absurd h
shared_kind passed_over h = absurd h

is_same : (n : ℕ) → (n == n) ≡ true
is_same n = grind (arith, nat_tests)

is_not : (n m : ℕ) → n ≢ m → (n == m) ≡ false
is_not n m other = grind (arith, nat_tests)

-- a segment of the composition page counts
pub counts_mine : (pages : Pages) (value : SegmentValue) → IsOfSet value
    → counts pages (on pages.composition value) ≡ true
counts_mine pages value known =
    (λ i. (is_same pages.composition i && set_kind value known i)
    || is_on shared_kinds pages.ancillary (on pages.composition value))

-- a CLUT or an object of the ancillary page does
pub counts_shared : (pages : Pages) (value : SegmentValue) → IsShareable value
    → counts pages (on pages.ancillary value) ≡ true
counts_shared pages value known =
    (λ i. is_on set_kinds pages.composition (on pages.ancillary value)
    || (is_same pages.ancillary i && shared_kind value known i))
    ∙ by (is_on set_kinds pages.composition (on pages.ancillary value))
  where
    by : (b : Bool) → (b || true) ≡ true
    by true = refl
    by false = refl

-- nothing of another page does
pub counts_not : (pages : Pages) (page : ℕ) (value : SegmentValue) → page ≢ pages.composition
    → page ≢ pages.ancillary → counts pages (on page value) ≡ false
counts_not pages page value other further = λ i.
    (is_not page pages.composition other i && list_any (λ kind. segment_kind value == kind) set_kinds)
    || (is_not page pages.ancillary further i && list_any (λ kind. segment_kind value == kind) shared_kinds)

-- ---- lists

pub all_kept : (kept : Paged → Bool) (page : ℕ) (values : List SegmentValue)
    → AllByRecursion (λ value. kept (on page value) ≡ true) values
    → filter kept (map (on page) values) ≡ map (on page) values
all_kept kept page [] all = refl
all_kept kept page (value ∷ values) all =
    ap (λ b. cond b (on page value ∷ filter kept (map (on page) values)) (filter kept (map (on page) values))) all.0
    ∙ ap (λ rest. on page value ∷ rest) (all_kept kept page values all.1)

pub none_kept : (kept : Paged → Bool) (page : ℕ) (values : List SegmentValue)
    → ((value : SegmentValue) → kept (on page value) ≡ false) → filter kept (map (on page) values) ≡ []
none_kept kept page [] none = refl
none_kept kept page (value ∷ values) none =
    ap (λ b. cond b (on page value ∷ filter kept (map (on page) values)) (filter kept (map (on page) values)))
    (none value)
    ∙ none_kept kept page values none

pub kept_of_all : {X : Type 0} (P : X → Type 0) (p : X → Bool) (xs : List X) → AllByRecursion P xs
    → AllByRecursion P (filter p xs)
kept_of_all P p [] all = tt
kept_of_all {X} P p (x ∷ xs) all = by (p x) (kept_of_all P p xs all.1)
  where
    by : (b : Bool) → AllByRecursion P (filter p xs) → AllByRecursion P (cond b (x ∷ filter p xs) (filter p xs))
    by true rest = (all.0, rest)
    by false rest = rest

-- ---- what is written

-- segments on pages whose bytes are those of these values, written on some page
abbrev pub Written : List SegmentValue → List Paged → Type 0
Written values sent = AllZip (λ (value : SegmentValue) (one : Paged). IsWrittenAs value (paged_bytes one)) values sent

pub written_bytes : (values : List SegmentValue) (sent : List Paged) → Written values sent
    → AllZip IsWrittenAs values (map paged_bytes sent)
written_bytes [] [] h = tt
written_bytes [] (one ∷ sent) h = absurd h
written_bytes (value ∷ values) [] h = absurd h
written_bytes (value ∷ values) (one ∷ sent) h = (h.0, written_bytes values sent h.1)

pub written_on : (page : ℕ) (values : List SegmentValue) → AllByRecursion IsFit (map (on page) values)
    → Written values (map (on page) values)
written_on page [] fit = tt
written_on page (value ∷ values) fit = ((page, fit.0, refl), written_on page values fit.1)
