-- How large the segments of a set can be, and how many different ids and table entries there are.
use Rattle.std.proofs.Common.{◌≡◌, ◌∙◌, ℕ, zero, suc, ◌+◌, ◌*◌, ◌==◌, ◌≤◌, ◌<◌, ◌^◌, ◌||◌, Bool, true, false, cond, List, [], ◌∷◌, ◌++◌, filter, length, map, refl, sym, ap, subst, arith, inl, inr}
use Rattle.std.specs.Prelude.{flat_map, sum_by}
use Rattle.std.specs.List.{list_any}
use Rattle.std.proofs.lemmas.Bool.{cases_eq, eq-eqb, eqb-true, ne_eqb}
use Rattle.std.proofs.lemmas.List.Folds.{list_any-append}
use Rattle.std.proofs.lemmas.List.Sums.{sum_by-append}
use Rattle.sub_base.specs.Lists.{different}
use Rattle.stream_syntax.specs.Fields.{Field, FitsFields}
use Rattle.stream_syntax.specs.Segments.{SegmentValue, of_page, of_region, of_clut, of_object, of_display, end_of_set, passed_over, Page, Region, IsSegment, byte_count, clut_fields, listing_fields, page_entry_fields, page_fields, region_fields, segment_fields, width_of}
use Rattle.stream_syntax.specs.declared.page.PageEntry.{PageEntry}
use Rattle.stream_syntax.specs.declared.region.Listing.{Listing}
use Rattle.decoder_model.specs.Nodes.{TableEntry, is_same, is_same_entry}
use Rattle.decoder_model.specs.Readings.{Content}
use Rattle.page_core.specs.Handed.{AreContents}
use Rattle.page_core.specs.Private.Inks.{ink_count}
use Rattle.page_core.specs.Memory.{IsInTable, ink_place}
use Rattle.page_core.proofs.Counts.DifferentItems.{different_within, no_more_different}
use Rattle.page_core.proofs.ColourTables.InkTables.{place_of_same}
use Rattle.page_core.proofs.Counts.MarkLaws.{place_inside}
use Rattle.page_core.proofs.Counts.MarkTables.{same_by_place, same_itself}

-- ---- segments

listing_bits : (listings : List Listing) → sum_by width_of (flat_map listing_fields listings) ≡ 48 * length listings
listing_bits [] = refl
listing_bits (listing ∷ listings) =
    let one : sum_by width_of (listing_fields listing) ≡ 48 = refl in
    omega (
      arith,
      sum_by-append width_of (listing_fields listing) (flat_map listing_fields listings),
      one,
      listing_bits
          listings,
    )

entry_bits : (entries : List PageEntry) → sum_by width_of (flat_map page_entry_fields entries) ≡ 48 * length entries
entry_bits [] = refl
entry_bits (entry ∷ entries) =
    let one : sum_by width_of (page_entry_fields entry) ≡ 48 = refl in
    omega (
      arith,
      sum_by-append width_of (page_entry_fields entry) (flat_map page_entry_fields entries),
      one,
      entry_bits
          entries,
    )

-- what is known of the value of a segment
abbrev pub IsSmall : SegmentValue → Type 0
IsSmall (of_page value) = length value.entries < 65536
IsSmall (of_region value) = (value.head.region < 256) × (length value.listings < 65536)
IsSmall (of_clut value) = value.clut < 256
IsSmall (of_object value) = Unit {0}
IsSmall (of_display value) = Unit {0}
IsSmall end_of_set = Unit {0}
IsSmall passed_over = Unit {0}

abbrev pub AreSmall : List Content → Type 0
AreSmall [] = Unit {0}
AreSmall (content ∷ contents) = IsSmall content.value × AreSmall contents

-- the listings of a region and the entries of a page, by the length of the segment
few_listings : (kind page compatibility : ℕ) (region : Region)
    → FitsFields (segment_fields kind page (region_fields compatibility region)) → length region.listings < 65536
few_listings kind page compatibility region fits =
    let size : byte_count (region_fields compatibility region) < 2 ^ 16 = fits.1.1.1.0 in
    let head : List Field = region_fields compatibility (record { head = region.head; listings = [] }) in
    let all : sum_by width_of (region_fields compatibility region)
    ≡ sum_by width_of head
    + sum_by width_of (flat_map listing_fields region.listings) = sum_by-append width_of head
    (flat_map listing_fields region.listings) in
    omega (arith, size, all, listing_bits region.listings)

few_entries : (kind number : ℕ) (page : Page) → FitsFields (segment_fields kind number (page_fields page))
    → length page.entries < 65536
few_entries kind number page fits =
    let size : byte_count (page_fields page) < 2 ^ 16 = fits.1.1.1.0 in
    let head : List Field =
    page_fields (record { time_out = page.time_out; version = page.version; state = page.state; entries = [] }) in
    let all : sum_by width_of (page_fields page)
    ≡ sum_by width_of head
    + sum_by width_of (flat_map page_entry_fields page.entries) = sum_by-append width_of head
    (flat_map page_entry_fields page.entries) in
    omega (arith, size, all, entry_bits page.entries)

pub small_segment : (bytes : List ℕ) (value : SegmentValue) → IsSegment bytes value → IsSmall value
small_segment bytes (of_page page) is =
    few_entries is.kind is.page page
    (subst (λ (body : List Field). FitsFields (segment_fields is.kind is.page body)) is.is_body.1 is.fits)
small_segment bytes (of_region region) is =
    let fits : FitsFields (segment_fields is.kind is.page (region_fields is.is_body.1 region)) =
    subst (λ (body : List Field). FitsFields (segment_fields is.kind is.page body)) is.is_body.2 is.fits in
    (fits.1.1.1.1.0, few_listings is.kind is.page is.is_body.1 region fits)
small_segment bytes (of_clut clut) is =
    let fits : FitsFields (segment_fields is.kind is.page (clut_fields clut.clut clut.version is.is_body.1)) =
    subst (λ (body : List Field). FitsFields (segment_fields is.kind is.page body)) is.is_body.3 is.fits in
    fits.1.1.1.1.0
small_segment bytes (of_object value) is = tt
small_segment bytes (of_display value) is = tt
small_segment bytes end_of_set is = tt
small_segment bytes passed_over is = tt

pub small_contents : (set : List Content) (bytes : List ℕ) → AreContents set bytes → AreSmall set
small_contents [] bytes are = tt
small_contents (content ∷ set) bytes (rest, begins, are) =
    (small_segment begins.segment content.value begins.is_reading.segment, small_contents set rest are)

pub small_filtered : (kind : Content → Bool) (set : List Content) → AreSmall set → AreSmall (filter kind set)
small_filtered kind [] small = tt
small_filtered kind (content ∷ set) small = by (kind content) (small_filtered kind set small.1)
  where
    by : (hit : Bool) → AreSmall (filter kind set)
        → AreSmall (cond hit (content ∷ filter kind set) (filter kind set))
    by true rest = (small.0, rest)
    by false rest = rest

-- ---- numbers below an end

below : ℕ → List ℕ
below zero = []
below (suc n) = n ∷ below n

length_below : (n : ℕ) → length (below n) ≡ n
unfolding below
length_below zero = refl
length_below (suc n) = ap suc (length_below n)

in_below : (n x : ℕ) → x < n → list_any (is_same x) (below n) ≡ true
unfolding below
in_below zero x low = absurd (omega (arith, low))
in_below (suc n) x low = elim (cases_eq x n) [
  | inl same ↦ ap (λ b. b || list_any (is_same x) (below n)) (eq-eqb x n same)
  | inr other ↦ right (x == n) (in_below n x (omega (arith, low, other)))
]
  where
    right : (b : Bool) → list_any (is_same x) (below n) ≡ true → (b || list_any (is_same x) (below n)) ≡ true
    right true is = refl
    right false is = is

pub same_number : (x : ℕ) → is_same x x ≡ true
same_number x = eq-eqb x x refl

pub equal_numbers : (x y : ℕ) → is_same x y ≡ true → x ≡ y
equal_numbers x y is = eqb-true x y is

abbrev pub AreBelow : ℕ → List ℕ → Type 0
AreBelow n [] = Unit {0}
AreBelow n (x ∷ xs) = (x < n) × AreBelow n xs

one_below : (n : ℕ) (xs : List ℕ) → AreBelow n xs → (asked : ℕ) → list_any (is_same asked) xs ≡ true
    → asked < n
one_below n [] all asked there = absurd (cc)
one_below n (x ∷ xs) all asked there = hit (is_same asked x) refl there (one_below n xs all.1 asked)
  where
    hit : (b : Bool) → is_same asked x ≡ b → (b || list_any (is_same asked) xs) ≡ true
        → (list_any (is_same asked) xs ≡ true → asked < n) → asked < n
    hit true is either rest = subst (λ m. m < n) (sym (eqb-true asked x is)) all.0
    hit false is either rest = rest either

-- there are no more different numbers below an end than the end says
pub few_numbers : (n : ℕ) (xs : List ℕ) → AreBelow n xs → length (different is_same xs) ≤ n
few_numbers n xs low =
    let fewer =
    no_more_different is_same same_number equal_numbers xs (below n)
    (λ asked there. in_below n asked (one_below n xs low asked there)) in
    omega (arith, fewer, different_within is_same same_number equal_numbers (below n), length_below n)

-- ---- entries of tables

abbrev pub place_of_entry : TableEntry → ℕ
place_of_entry entry = ink_place entry.clut entry.depth entry.entry

abbrev pub AreInTables : List TableEntry → Type 0
AreInTables [] = Unit {0}
AreInTables (entry ∷ entries) = IsInTable entry × AreInTables entries

same_places : (a b : TableEntry) → IsInTable a → IsInTable b
    → (place_of_entry a == place_of_entry b) ≡ is_same_entry a b
same_places a b in_a in_b = by (is_same_entry a b) refl
  where
    by : (same : Bool) → is_same_entry a b ≡ same → (place_of_entry a == place_of_entry b) ≡ same
    by true is = eq-eqb (place_of_entry a) (place_of_entry b) (place_of_same a b is)
    by false is =
        ne_eqb (place_of_entry a) (place_of_entry b)
        (λ e. let yes : is_same_entry a b
        ≡ true = ap (λ (one : TableEntry). is_same_entry a one) (sym (same_by_place a b in_a in_b (sym e)))
        ∙ same_itself a in absurd (cc))

any_place : (asked : TableEntry) (entries : List TableEntry) → IsInTable asked → AreInTables entries
    → list_any (is_same (place_of_entry asked)) (map place_of_entry entries)
    ≡ list_any (is_same_entry asked) entries
any_place asked [] inside all = refl
any_place asked (entry ∷ entries) inside all =
    λ i. same_places asked entry inside all.0 i || any_place asked entries inside all.1 i

different_places : (entries : List TableEntry) → AreInTables entries
    → length (different is_same (map place_of_entry entries)) ≡ length (different is_same_entry entries)
different_places [] all = refl
different_places (entry ∷ entries) all =
    ap (λ b. length
    (cond b (different is_same (map place_of_entry entries))
    (place_of_entry entry ∷ different is_same (map place_of_entry entries))))
    (any_place entry entries all.0 all.1)
    ∙ by (list_any (is_same_entry entry) entries) (different_places entries all.1)
  where
    by : (b : Bool)
        → length (different is_same (map place_of_entry entries)) ≡ length (different is_same_entry entries)
        → length (cond b (different is_same (map place_of_entry entries))
        (place_of_entry entry ∷ different is_same (map place_of_entry entries)))
        ≡ length (cond b (different is_same_entry entries) (entry ∷ different is_same_entry entries))
    by true rest = rest
    by false rest = ap suc rest

-- there are no more different entries than the tables have
pub few_table_entries : (entries : List TableEntry) → AreInTables entries
    → length (different is_same_entry entries) ≤ ink_count
few_table_entries entries all =
    let fewer = few_numbers ink_count (map place_of_entry entries) (places entries all) in
    omega (arith, fewer, different_places entries all)
  where
    places : (xs : List TableEntry) → AreInTables xs → AreBelow ink_count (map place_of_entry xs)
    places [] all = tt
    places (x ∷ xs) all = (place_inside x.clut x.depth x.entry all.0.0 all.0.1, places xs all.1)

-- ---- two lists

-- two lists have no more different items together than each by itself
pub different_of_both : {X : Type 0} (same : X → X → Bool) (xs ys : List X)
    → length (different same (xs ++ ys)) ≤ length (different same xs) + length (different same ys)
different_of_both same [] ys = omega arith
different_of_both {X} same (x ∷ xs) ys =
    by (list_any (same x) xs) (list_any (same x) ys) (list_any-append (same x) xs ys) (different_of_both same xs ys)
  where
    by : (first second : Bool) → list_any (same x) (xs ++ ys) ≡ (first || second)
        → length (different same (xs ++ ys)) ≤ length (different same xs) + length (different same ys)
        → length (cond (list_any (same x) (xs ++ ys)) (different same (xs ++ ys)) (x ∷ different same (xs ++ ys)))
        ≤ length (cond first (different same xs) (x ∷ different same xs)) + length (different same ys)
    by true second is rest = rw is rest
    by false true is rest = rw is (omega (arith, rest))
    by false false is rest = rw is (omega (arith, rest))
