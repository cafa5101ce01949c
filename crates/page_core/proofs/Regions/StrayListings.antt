-- A list of listings without a region is empty, where all nodes are counted.
use Rattle.std.proofs.Common.{◌≡◌, ◌∙◌, ℕ, suc, ◌+◌, ◌==◌, ◌<◌, ◌≤◌, ◌||◌, false, List, [], ◌∷◌, length, map, get_or, set, sum_by, Option, Some, None, refl, sym, ap, subst, inl, inr, arith}
use Rattle.std.specs.List.{cons_option, list_any}
use Rattle.std.proofs.lemmas.Bool.{cases_eq, cases_lt, eq-eqb, ne_eqb}
use Rattle.std.proofs.lemmas.List.{get_or-set_other, get_or_past, length-map}
use Rattle.std.proofs.lemmas.List.Sums.{sum_by-cons, sum_by-set}
use Rattle.comp_pool.specs.Pool.{PoolOf, list_of}
use Rattle.comp_pool.specs.declared.node.NodeId.{NodeId}
use Rattle.decoder_model.specs.Nodes.{is_same}
use Rattle.page_core.specs.Composition.{AreIdsApart, Composition, KeptRegion, region_in, taken_nodes}
use Rattle.page_core.specs.Private.Nodes.{clut_node, colour_in, composition_of, entry_in, kept_in, listing_in, listings_list, region_kept, region_node}
use Rattle.page_core.specs.declared.node.Node.{Node}
use Rattle.page_core.specs.declared.node.RegionNode.{RegionNode}
use Rattle.page_core.proofs.Regions.RegionIds.{none_has}
use Rattle.page_core.proofs.Counts.PixelRoom.{sum_apart}

-- ---- lengths of some of the lists

-- no number is there twice
abbrev AreNumbersApart : List ℕ → Type 0
AreNumbersApart [] = Unit {0}
AreNumbersApart (n ∷ ns) = (list_any (is_same n) ns ≡ false) × AreNumbersApart ns

abbrev length_at : {X : Type 0} → List (List X) → ℕ → ℕ
length_at lists n = length (get_or lists n [])

some_lists : {X : Type 0} (lists : List (List X)) (ns : List ℕ) → AreNumbersApart ns
    → sum_by (length_at lists) ns ≤ sum_by length lists
some_lists lists [] apart = omega arith
some_lists {X} lists (n ∷ ns) apart = elim (cases_lt n (length lists)) [
  | inl low ↦
      let none : List X = [] in
      let without = set lists n none in
      let rest : sum_by (length_at without) ns ≡ sum_by (length_at lists) ns =
      sum_apart (length_at without) (length_at lists) n ns
      (λ m other. ap length (get_or-set_other lists n m none none other)) apart.0 in
      omega (
        arith,
        sum_by-set length lists n none none low,
        rest,
        some_lists without ns apart.1,
        sum_by-cons
            (length_at lists) n ns,
      )
  | inr high ↦
      let none : length_at lists n ≡ 0 = ap length (get_or_past lists n [] high) in
      omega (arith, none, some_lists lists ns apart.1, sum_by-cons (length_at lists) n ns)
]

-- ---- those of regions

abbrev place_of : RegionNode → ℕ
place_of region = listings_list region.head.region

same_place : (a b : ℕ) → is_same (listings_list a) (listings_list b) ≡ (b == a)
same_place a b = elim (cases_eq b a) [
  | inl same ↦ eq-eqb (listings_list a) (listings_list b) (ap listings_list (sym same)) ∙ sym (eq-eqb b a same)
  | inr other ↦ ne_eqb (listings_list a) (listings_list b) (λ e. other (omega (arith, e))) ∙ sym (ne_eqb b a other)
]

module _ (pool : PoolOf Node) where
  places_among : (id : ℕ) (regions : List RegionNode)
      → list_any (is_same (listings_list id)) (map place_of regions)
      ≡ list_any (λ (kept : KeptRegion). kept.head.region == id) (map (region_kept pool) regions)
  places_among id [] = refl
  places_among id (region ∷ regions) = λ i. same_place id region.head.region i || places_among id regions i

  low_apart : (n : ℕ) (regions : List RegionNode) → n < 4 → list_any (is_same n) (map place_of regions) ≡ false
  low_apart n [] low = refl
  low_apart n (region ∷ regions) low =
      λ i. ne_eqb n (listings_list region.head.region) (λ e. omega (arith, e, low)) i || low_apart n regions low i

  places_apart : (regions : List RegionNode) → AreIdsApart (map (region_kept pool) regions)
      → AreNumbersApart (map place_of regions)
  places_apart [] apart = tt
  places_apart (region ∷ regions) apart =
      (places_among region.head.region regions ∙ apart.0, places_apart regions apart.1)

  kept_le : {X : Type 0} (kind : Node → Option X) (pairs : List (NodeId × Node))
      → length (kept_in kind pairs) ≤ length pairs
  kept_le kind [] = omega arith
  kept_le {X} kind (pair ∷ pairs) = by (kind pair.1) (kept_le kind pairs)
    where
      by : (found : Option X) → length (kept_in kind pairs) ≤ length pairs
          → length (cons_option found (kept_in kind pairs)) ≤ suc (length pairs)
      by None rest = omega (arith, rest)
      by (Some x) rest = omega (arith, rest)

  listings_le : (regions : List RegionNode)
      → sum_by (λ (kept : KeptRegion). length kept.listings) (map (region_kept pool) regions)
      ≤ sum_by (length_at pool.lists) (map place_of regions)
  listings_le [] = omega arith
  listings_le (region ∷ regions) =
      omega (
        arith,
        sum_by-cons (λ (kept : KeptRegion). length kept.listings) (region_kept pool region)
            (map (region_kept pool) regions),
        sum_by-cons (length_at pool.lists) (place_of region) (map place_of regions),
        kept_le listing_in (list_of pool (place_of region)),
        listings_le regions,
      )

  empty : {X : Type 0} (xs : List X) → length xs ≡ 0 → xs ≡ []
  empty [] is = refl
  empty (x ∷ xs) is = absurd (omega (arith, is))

  -- a region that is new finds its list of listings empty
  pub no_strays : (id : ℕ) (value : Composition) → composition_of pool ≡ value
      → value.free + taken_nodes value ≡ value.size → AreIdsApart value.regions → region_in value id ≡ None
      → list_of pool (listings_list id) ≡ []
  no_strays id value view counted apart new =
      let regions = kept_in region_node (list_of pool 1) in
      let ids : AreIdsApart (map (region_kept pool) regions) =
      subst (λ (c : Composition). AreIdsApart c.regions) (sym view) apart in
      let none : region_in (composition_of pool) id ≡ None =
      subst (λ (c : Composition). region_in c id ≡ None) (sym view) new in
      let all : (composition_of pool).free + taken_nodes (composition_of pool) ≡ (composition_of pool).size =
      subst (λ (c : Composition). c.free + taken_nodes c ≡ c.size) (sym view) counted in
      let fresh : list_any (is_same (listings_list id)) (map place_of regions) ≡ false =
      places_among id regions ∙ none_has id (map (region_kept pool) regions) none in
      let low : (n : ℕ) → n < 4 → list_any (is_same n) (listings_list id ∷ map place_of regions) ≡ false =
      λ n below i. ne_eqb n (listings_list id) (λ e. omega (arith, e, below)) i || low_apart n regions below i in
      let numbers : AreNumbersApart (0 ∷ 1 ∷ 2 ∷ 3 ∷ listings_list id ∷ map place_of regions) = (
        low 0 (omega arith),
        (
          low 1
              (omega arith),
          (low 2 (omega arith), (low 3 (omega arith), (fresh, places_apart regions ids))),
        ),
      ) in
      let f : ℕ → ℕ = length_at pool.lists in
      let rest = listings_list id ∷ map place_of regions in
      empty (list_of pool (listings_list id))
      (omega (
        arith,
        some_lists pool.lists (0 ∷ 1 ∷ 2 ∷ 3 ∷ listings_list id ∷ map place_of regions) numbers,
        sum_by-cons f 0 (1 ∷ 2 ∷ 3 ∷ rest),
        sum_by-cons f 1 (2 ∷ 3 ∷ rest),
        sum_by-cons f 2 (3 ∷ rest),
        sum_by-cons f 3 rest,
        sum_by-cons f (listings_list id) (map place_of regions),
        all,
        kept_le entry_in (list_of pool 0),
        kept_le region_node (list_of pool 1),
        length-map regions (region_kept pool),
        listings_le regions,
        kept_le clut_node (list_of pool 2),
        kept_le colour_in (list_of pool 3),
      ))
