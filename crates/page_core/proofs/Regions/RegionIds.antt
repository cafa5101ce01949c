-- Regions that are kept, by their ids, where those of one id are changed.
use Rattle.std.proofs.Common.{◌≡◌, ◌∙◌, ℕ, ◌+◌, ◌==◌, ◌<◌, ◌||◌, Bool, true, false, cond, eqb, List, [], ◌∷◌, ◌++◌, find, length, map, sum_by, All, Some, None, option_map, refl, sym, ap, subst, arith}
use Rattle.std.specs.List.{AllByRecursion, IsDistinct, list_any}
use Rattle.std.proofs.lemmas.Bool.{eqb-true, eq-eqb}
use Rattle.std.proofs.lemmas.List.Elements.{All-cons, All-head, All-tail}
use Rattle.std.proofs.lemmas.List.Sums.{sum_by-cons}
use Rattle.std.proofs.lemmas.Map.Steps.{length-le_from_distinct_below}
use Rattle.page_core.specs.Composition.{AreIdsApart, KeptRegion}
use Rattle.page_core.specs.Private.RegionSteps.{changed_at}
use Rattle.page_core.proofs.Regions.RegionLaws.{either_false}
use Rattle.page_core.proofs.Counts.PixelRoom.{turned}

abbrev pub has_id : ℕ → KeptRegion → Bool
has_id id kept = kept.head.region == id

abbrev pub id_of : KeptRegion → ℕ
id_of kept = kept.head.region

abbrev pub listings_at : KeptRegion → ℕ
listings_at kept = length kept.listings

-- ---- ids

any_by_ids : (n : ℕ) (regions : List KeptRegion)
    → list_any (has_id n) regions ≡ list_any (λ m. m == n) (map id_of regions)
any_by_ids n [] = refl
any_by_ids n (kept ∷ regions) = λ i. (kept.head.region == n) || any_by_ids n regions i

-- regions with the same ids are apart, where others are
pub apart_by_ids : (xs ys : List KeptRegion)
    → map (λ (kept : KeptRegion). kept.head.region) xs ≡ map (λ (kept : KeptRegion). kept.head.region) ys
    → AreIdsApart xs → AreIdsApart ys
apart_by_ids [] [] same apart = tt
apart_by_ids [] (y ∷ ys) same apart = absurd (cc)
apart_by_ids (x ∷ xs) [] same apart = tt
apart_by_ids (x ∷ xs) (y ∷ ys) same apart =
    let first : x.head.region ≡ y.head.region = cc in
    let rest : map id_of xs ≡ map id_of ys = cc in (
      any_by_ids y.head.region ys ∙ (λ i. list_any (λ m. m == sym first i) (sym rest i))
          ∙ sym (any_by_ids x.head.region xs) ∙ apart.0,
      apart_by_ids xs ys rest apart.1,
    )

-- ---- regions that are changed, and keep their ids

module _ (change : KeptRegion → KeptRegion)
    (same_id : (kept : KeptRegion) → (change kept).head.region ≡ kept.head.region) where
  pub ids_mapped : (regions : List KeptRegion)
      → map (λ (kept : KeptRegion). kept.head.region) (map change regions)
      ≡ map (λ (kept : KeptRegion). kept.head.region) regions
  ids_mapped [] = refl
  ids_mapped (kept ∷ regions) = λ i. same_id kept i ∷ ids_mapped regions i

  pub apart_mapped : (regions : List KeptRegion) → AreIdsApart regions → AreIdsApart (map change regions)
  apart_mapped regions apart = apart_by_ids regions (map change regions) (sym (ids_mapped regions)) apart

  pub found_mapped : (id : ℕ) (regions : List KeptRegion)
      → find (λ (kept : KeptRegion). kept.head.region == id) (map change regions)
      ≡ option_map change (find (λ (kept : KeptRegion). kept.head.region == id) regions)
  found_mapped id [] = refl
  found_mapped id (kept ∷ regions) =
      (λ i. cond (same_id kept i == id) (Some (change kept)) (found_mapped id regions i))
      ∙ by (kept.head.region == id)
    where
      by : (hit : Bool)
          → cond hit (Some (change kept)) (option_map change (find (has_id id) regions))
          ≡ option_map change (cond hit (Some kept) (find (has_id id) regions))
      by true = refl
      by false = refl

-- ---- what is found

-- where none is found, none has the id
pub none_has : (id : ℕ) (regions : List KeptRegion) → find (has_id id) regions ≡ None
    → list_any (has_id id) regions ≡ false
none_has id [] none = refl
none_has id (kept ∷ regions) none = by (kept.head.region == id) none (none_has id regions)
  where
    by : (hit : Bool) → cond hit (Some kept) (find (has_id id) regions) ≡ None
        → (find (has_id id) regions ≡ None → list_any (has_id id) regions ≡ false)
        → (hit || list_any (has_id id) regions) ≡ false
    by true none rest = absurd (cc)
    by false none rest = rest none

-- what is found has the id
pub found_has : (id : ℕ) (regions : List KeptRegion) (kept : KeptRegion) → find (has_id id) regions ≡ Some kept
    → kept.head.region ≡ id
found_has id [] kept is = absurd (cc)
found_has id (other ∷ regions) kept is = by (other.head.region == id) refl is (found_has id regions kept)
  where
    by : (hit : Bool) → (other.head.region == id) ≡ hit
        → cond hit (Some other) (find (has_id id) regions) ≡ Some kept
        → (find (has_id id) regions ≡ Some kept → kept.head.region ≡ id) → kept.head.region ≡ id
    by true here found rest =
        let same : other ≡ kept = cc in sym (ap id_of same) ∙ eqb-true other.head.region id here
    by false here found rest = rest found

-- regions whose ids are bytes, no two of them the same, are at most 256, and fewer where an id is free
distinct : (regions : List KeptRegion) → AreIdsApart regions → IsDistinct eqb (map id_of regions)
unfolding IsDistinct
distinct [] apart = tt
distinct (kept ∷ regions) apart = (others regions apart.0, distinct regions apart.1)
  where
    others : (rest : List KeptRegion) → list_any (has_id kept.head.region) rest ≡ false
        → AllByRecursion (λ n. eqb kept.head.region n ≡ false) (map id_of rest)
    others [] none = tt
    others (other ∷ rest) none =
        let parts =
        either_false (other.head.region == kept.head.region) (list_any (has_id kept.head.region) rest) none in
        (turned kept.head.region other.head.region ∙ parts.0, others rest parts.1)

below_all : (n : ℕ) (regions : List KeptRegion) → All (λ (kept : KeptRegion). kept.head.region < n) regions
    → (q : ℕ) → list_any (eqb q) (map id_of regions) ≡ true → q < n
below_all n [] all q hit = absurd (cc)
below_all n (kept ∷ regions) all q hit =
    let low : KeptRegion → Type 0 = λ kept. kept.head.region < n in
    by (eqb q kept.head.region) refl (All-head low kept regions all) hit
    (below_all n regions (All-tail low kept regions all) q)
  where
    by : (here : Bool) → eqb q kept.head.region ≡ here → kept.head.region < n
        → (here || list_any (eqb q) (map id_of regions)) ≡ true
        → (list_any (eqb q) (map id_of regions) ≡ true → q < n) → q < n
    by true is low hit rest = omega (arith, eqb-true q kept.head.region is, low)
    by false is low hit rest = rest hit

pub fewer : (id : ℕ) (slot : KeptRegion) (regions : List KeptRegion) → slot.head.region ≡ id → id < 256
    → find (has_id id) regions ≡ None → All (λ (kept : KeptRegion). kept.head.region < 256) regions
    → AreIdsApart regions
    → length (map id_of regions) < 256
fewer id one regions is low none all apart =
    let more : AreIdsApart (one ∷ regions) =
    (ap (λ n. list_any (has_id n) regions) is ∙ none_has id regions none, apart) in
    let bytes : All (λ (kept : KeptRegion). kept.head.region < 256) (one ∷ regions) =
    All-cons (λ (kept : KeptRegion). kept.head.region < 256) one regions (omega (arith, is, low)) all in
    omega (
      arith,
      length-le_from_distinct_below (map id_of (one ∷ regions)) 256 (distinct (one ∷ regions) more)
          (below_all 256 (one ∷ regions) bytes),
    )

-- one more region is apart
pub apart_with : (regions : List KeptRegion) (one : KeptRegion) → AreIdsApart regions
    → list_any (has_id one.head.region) regions ≡ false → AreIdsApart (regions ++ one ∷ [])
apart_with [] one apart none = (refl, tt)
apart_with (kept ∷ regions) one apart none =
    let parts = either_false (kept.head.region == one.head.region) (list_any (has_id one.head.region) regions) none in (
      behind regions apart.0 (turned one.head.region kept.head.region ∙ parts.0),
      apart_with regions one apart.1
          parts.1,
    )
  where
    behind : (rest : List KeptRegion) → list_any (has_id kept.head.region) rest ≡ false
        → (one.head.region == kept.head.region) ≡ false
        → list_any (has_id kept.head.region) (rest ++ one ∷ []) ≡ false
    behind [] none other = ap (λ b. b || false) other
    behind (r ∷ rest) none other =
        let parts = either_false (r.head.region == kept.head.region) (list_any (has_id kept.head.region) rest) none in
        ap (λ b. b || list_any (has_id kept.head.region) (rest ++ one ∷ [])) parts.0 ∙ behind rest parts.1 other

-- ---- the region of an id is changed

pub none_changed : (id : ℕ) (change : KeptRegion → KeptRegion) (regions : List KeptRegion)
    → list_any (has_id id) regions ≡ false → map (changed_at id change) regions ≡ regions
none_changed id change [] none = refl
none_changed id change (kept ∷ regions) none =
    let parts = either_false (kept.head.region == id) (list_any (has_id id) regions) none in
    λ i. cond (parts.0 i) (change kept) kept ∷ none_changed id change regions parts.1 i

module _ (id : ℕ) (change : KeptRegion → KeptRegion)
    (same_id : (kept : KeptRegion) → kept.head.region ≡ id → (change kept).head.region ≡ id) where
  pub id_kept : (kept : KeptRegion) → (changed_at id change kept).head.region ≡ kept.head.region
  id_kept kept = by (kept.head.region == id) refl
    where
      by : (hit : Bool) → (kept.head.region == id) ≡ hit
          → (cond hit (change kept) kept).head.region ≡ kept.head.region
      by true is = let same = eqb-true kept.head.region id is in same_id kept same ∙ sym same
      by false is = refl

  -- the ids stay, and what is found is changed
  pub ids_kept : (regions : List KeptRegion)
      → map (λ (kept : KeptRegion). kept.head.region) (map (changed_at id change) regions)
      ≡ map (λ (kept : KeptRegion). kept.head.region) regions
  ids_kept regions = ids_mapped (changed_at id change) id_kept regions

  pub found_changed : (n : ℕ) (regions : List KeptRegion)
      → find (λ (kept : KeptRegion). kept.head.region == n) (map (changed_at id change) regions)
      ≡ option_map (changed_at id change) (find (λ (kept : KeptRegion). kept.head.region == n) regions)
  found_changed n regions = found_mapped (changed_at id change) id_kept n regions

-- a region of another id is not changed, and one of that id is
pub changed_other : (id n : ℕ) (change : KeptRegion → KeptRegion) (kept : KeptRegion) → kept.head.region ≡ n
    → (n == id) ≡ false → changed_at id change kept ≡ kept
changed_other id n change kept is other = ap (λ b. cond b (change kept) kept) (ap (λ m. m == id) is ∙ other)

pub changed_here : (id : ℕ) (change : KeptRegion → KeptRegion) (kept : KeptRegion) → kept.head.region ≡ id
    → changed_at id change kept ≡ change kept
changed_here id change kept is = ap (λ b. cond b (change kept) kept) (eq-eqb kept.head.region id is)

module _ (id : ℕ) (change : KeptRegion → KeptRegion) (kept : KeptRegion) where
  -- what holds of all holds with what holds of the region that is changed
  pub all_with : (P : KeptRegion → Type 0) (regions : List KeptRegion)
      → find (λ (kept : KeptRegion). kept.head.region == id) regions ≡ Some kept → AreIdsApart regions
      → P (change kept) → All P regions → All P (map (changed_at id change) regions)
  all_with P [] found apart here all = absurd (cc)
  all_with P (one ∷ regions) found apart here all =
      by (one.head.region == id) refl found
      (λ found. all_with P regions found apart.1 here (All-tail P one regions all))
    where
      by : (hit : Bool) → (one.head.region == id) ≡ hit
          → cond hit (Some one) (find (has_id id) regions) ≡ Some kept
          → (find (has_id id) regions ≡ Some kept → All P (map (changed_at id change) regions))
          → All P (map (changed_at id change) (one ∷ regions))
      by true is found rest =
          let same : one ≡ kept = cc in
          let same_id = eqb-true one.head.region id is in
          let others : map (changed_at id change) regions ≡ regions =
          none_changed id change regions (ap (λ n. list_any (has_id n) regions) (sym same_id) ∙ apart.0) in
          All-cons P (changed_at id change one) (map (changed_at id change) regions)
          (subst P (sym (changed_here id change one same_id ∙ ap change same)) here)
          (subst (All P) (sym others) (All-tail P one regions all))
      by false is found rest =
          All-cons P (changed_at id change one) (map (changed_at id change) regions)
          (subst P (sym (changed_other id one.head.region change one refl is)) (All-head P one regions all))
          (rest found)

  -- the listings of all regions, with those of the one that is changed
  pub sum_with : (regions : List KeptRegion)
      → find (λ (kept : KeptRegion). kept.head.region == id) regions ≡ Some kept → AreIdsApart regions
      → sum_by (λ (kept : KeptRegion). length kept.listings) (map (changed_at id change) regions)
      + length kept.listings
      ≡ sum_by (λ (kept : KeptRegion). length kept.listings) regions + length (change kept).listings
  sum_with [] found apart = absurd (cc)
  sum_with (one ∷ regions) found apart =
      by (one.head.region == id) refl found (λ found. sum_with regions found apart.1)
    where
      by : (hit : Bool) → (one.head.region == id) ≡ hit
          → cond hit (Some one) (find (has_id id) regions) ≡ Some kept
          → (find (has_id id) regions ≡ Some kept
          → sum_by listings_at (map (changed_at id change) regions) + length kept.listings
          ≡ sum_by listings_at regions + length (change kept).listings)
          → sum_by listings_at (map (changed_at id change) (one ∷ regions)) + length kept.listings
          ≡ sum_by listings_at (one ∷ regions) + length (change kept).listings
      by true is found rest =
          let same : one ≡ kept = cc in
          let same_id = eqb-true one.head.region id is in
          let others : map (changed_at id change) regions ≡ regions =
          none_changed id change regions (ap (λ n. list_any (has_id n) regions) (sym same_id) ∙ apart.0) in
          omega (
            arith,
            sum_by-cons listings_at (changed_at id change one) (map (changed_at id change) regions),
            ap (sum_by listings_at) others,
            ap listings_at (changed_here id change one same_id ∙ ap change same),
            sum_by-cons listings_at one regions,
            ap listings_at same,
          )
      by false is found rest =
          omega (
            arith,
            sum_by-cons listings_at (changed_at id change one) (map (changed_at id change) regions),
            ap listings_at (changed_other id one.head.region change one refl is),
            sum_by-cons listings_at one regions,
            rest found,
          )
