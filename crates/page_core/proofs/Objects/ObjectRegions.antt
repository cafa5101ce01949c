-- The fault of an object in the regions of a composition, and in those of the taken segments.
use Rattle.std.proofs.Common.{◌≡◌, ◌∙◌, refl, sym, ap, subst, inl, inr, ℕ, zero, suc, ◌+◌, ◌<◌, ◌≤◌, ◌⊎◌, Bool, true, false, ◌||◌, cond, ltb, List, [], ◌∷◌, map, Contains, Option, Some, None, option_map, arith}
use Rattle.std.specs.List.{list_any, cons_option, range_with_len}
use Rattle.std.specs.Option.{option_or}
use Rattle.std.proofs.lemmas.Bool.{cases_lt}
use Rattle.std.proofs.lemmas.Bool.Decides.{nat_tests}
use Rattle.sub_base.specs.Lists.{first_given}
use Rattle.stream_syntax.specs.Segments.{Object}
use Rattle.comp_pool.specs.declared.node.NodeId.{NodeId}
use Rattle.comp_pool.specs.Pool.{PoolOf, list_of}
use Rattle.decoder_model.specs.Faults.{depth_fault}
use Rattle.decoder_model.specs.Readings.{Content}
use Rattle.decoder_model.specs.declared.set_fault.SetFault.{SetFault}
use Rattle.decoder_model.specs.declared.set_fault.SetFault.TheVariants as fault
use Rattle.stream_syntax.specs.declared.segment_fault.SegmentFault.{SegmentFault}
use Rattle.page_core.specs.declared.composition.objects.RegionFault.{RegionFault}
use Rattle.page_core.specs.Composition.{Composition, KeptListing}
use Rattle.page_core.specs.Private.Listings.{is_due}
use Rattle.page_core.specs.Private.Nodes.{kept_in, region_node, region_kept, listing_in, listings_list, composition_of}
use Rattle.page_core.specs.Private.ObjectFaults.{lesser, least_of, in_region, fault_in_kept, is_due_node, is_due_pair, fault_in_region_node, fault_in_node, fault_in_pair, told}
use Rattle.page_core.specs.declared.composition.listings.Painter.{Painter}
use Rattle.page_core.specs.declared.node.Node.{Node}
use Rattle.page_core.specs.declared.node.Node.TheVariants as node
use Rattle.page_core.specs.declared.node.RegionNode.{RegionNode}

-- ---- nodes and what is kept

due_listing : (painter : Painter) (item : Node) (rest : List KeptListing)
    → (is_due_node painter item || list_any (is_due painter) rest)
    ≡ list_any (is_due painter) (cons_option (listing_in item) rest)
due_listing painter (node.Entry entry) rest = refl
due_listing painter (node.Region region) rest = refl
due_listing painter (node.Listing kept) rest = refl
due_listing painter (node.Clut clut) rest = refl
due_listing painter (node.Colour place) rest = refl

pub due_listings : (painter : Painter) (ps : List (NodeId × Node))
    → list_any (is_due_pair painter) ps ≡ list_any (is_due painter) (kept_in listing_in ps)
due_listings painter [] = refl
due_listings painter (p ∷ ps) =
    ap (λ (rest : Bool). is_due_node painter p.1 || rest) (due_listings painter ps)
    ∙ due_listing painter p.1 (kept_in listing_in ps)

pub fault_of_region : (pool : PoolOf Node) (painter : Painter) (content : Content) (object : Object)
    (region : RegionNode)
    → fault_in_region_node pool painter content object region
    ≡ fault_in_kept painter content object (region_kept pool region)
fault_of_region pool painter content object region =
    ap (λ (due : Bool). cond due
    (option_map (in_region region.head.region) (depth_fault region.head.depth content object)) None)
    (due_listings painter (list_of pool (listings_list region.head.region)))

fault_of_node : (pool : PoolOf Node) (painter : Painter) (content : Content) (object : Object) (item : Node)
    (rest : List RegionNode)
    → lesser (fault_in_node pool painter content object item)
    (least_of (fault_in_kept painter content object) (map (region_kept pool) rest))
    ≡ least_of (fault_in_kept painter content object) (map (region_kept pool) (cons_option (region_node item) rest))
fault_of_node pool painter content object (node.Entry entry) rest = refl
fault_of_node pool painter content object (node.Region region) rest =
    ap (λ found. lesser found (least_of (fault_in_kept painter content object) (map (region_kept pool) rest)))
    (fault_of_region pool painter content object region)
fault_of_node pool painter content object (node.Listing kept) rest = refl
fault_of_node pool painter content object (node.Clut clut) rest = refl
fault_of_node pool painter content object (node.Colour place) rest = refl

-- the fault in the regions of nodes is that in the regions that are kept
pub fault_of_nodes : (pool : PoolOf Node) (painter : Painter) (content : Content) (object : Object)
    (ps : List (NodeId × Node))
    → least_of (fault_in_pair pool painter content object) ps
    ≡ least_of (fault_in_kept painter content object) (map (region_kept pool) (kept_in region_node ps))
fault_of_nodes pool painter content object [] = refl
fault_of_nodes pool painter content object (p ∷ ps) =
    ap (lesser (fault_in_node pool painter content object p.1)) (fault_of_nodes pool painter content object ps)
    ∙ fault_of_node pool painter content object p.1 (kept_in region_node ps)

-- ---- the least id

module _ {X : Type 0} (fault_of : X → Option (ℕ × SetFault)) where
  -- an item has the fault, and no item has one with a lesser id
  pub record IsLeast (items : List X) (found : ℕ × SetFault) : Type 0 where
    pub item : X
    pub there : Contains items item
    pub has : fault_of item ≡ Some found
    pub least : (other : X) (fault : ℕ × SetFault) → Contains items other → fault_of other ≡ Some fault
        → found.0 ≤ fault.0

  abbrev pub AreNone : List X → Type 0
  AreNone items = (item : X) → Contains items item → fault_of item ≡ None

  abbrev pub IsLeastOf : List X → Option (ℕ × SetFault) → Type 0
  IsLeastOf items None = AreNone items
  IsLeastOf items (Some found) = IsLeast items found

  in_rest : (x : X) (xs : List X) (y : X) → Contains xs y → Contains (x ∷ xs) y
  in_rest x xs y (k, short, e) = (suc k, omega (arith, short), e)

  first_or_rest : (x : X) (xs : List X) (y : X) (P : X → Type 0) → P x → ((z : X) → Contains xs z → P z)
      → Contains (x ∷ xs) y → P y
  first_or_rest x xs y P here there (zero, short, e) = subst P e here
  first_or_rest x xs y P here there (suc k, short, e) = there y (k, omega (arith, short), e)

  pub least_is : (items : List X) → IsLeastOf items (least_of fault_of items)
  least_is [] = λ item there. absurd (omega (arith, there.1))
  least_is (x ∷ xs) = by (fault_of x) (least_of fault_of xs) refl (least_is xs)
    where
      by : (here rest : Option (ℕ × SetFault)) → fault_of x ≡ here → IsLeastOf xs rest
          → IsLeastOf (x ∷ xs) (lesser here rest)
      by None None is none = λ item there. first_or_rest x xs item (λ (z : X). fault_of z ≡ None) is none there
      by None (Some found) is rest = record {
        item = rest.item;
        there = in_rest x xs rest.item rest.there;
        has = rest.has;
        least =
            λ other fault there has. first_or_rest x xs other
            (λ (z : X). (fault : ℕ × SetFault) → fault_of z ≡ Some fault → found.0 ≤ fault.0)
            (λ fault e. absurd (cc)) (λ z in_xs fault e. rest.least z fault in_xs e) there fault has;
      }
      by (Some one) None is none = record {
        item = x;
        there = (zero, omega arith, refl);
        has = is;
        least =
            λ other fault there has. first_or_rest x xs other
            (λ (z : X). (fault : ℕ × SetFault) → fault_of z ≡ Some fault → one.0 ≤ fault.0)
            (λ fault e. let same : one
            ≡ fault = cc in subst (λ (f : ℕ × SetFault). one.0 ≤ f.0) same (omega arith))
            (λ z in_xs fault e. let no_fault = none z in_xs in absurd (cc)) there fault has;
      }
      by (Some one) (Some found) is rest = chosen (ltb found.0 one.0) refl
        where
          chosen : (less : Bool) → ltb found.0 one.0 ≡ less
              → IsLeastOf (x ∷ xs) (cond less (Some found) (Some one))
          chosen true e = record {
            item = rest.item;
            there = in_rest x xs rest.item rest.there;
            has = rest.has;
            least =
                λ other fault there has. first_or_rest x xs other
                (λ (z : X). (fault : ℕ × SetFault) → fault_of z ≡ Some fault → found.0 ≤ fault.0)
                (λ fault is_too. let same : one ≡ fault = cc in let below : found.0
                ≤ one.0 = grind (arith, nat_tests) in subst (λ (f : ℕ × SetFault). found.0 ≤ f.0) same
                below)
                (λ z in_xs fault is_too. rest.least z fault in_xs is_too) there fault has;
          }
          chosen false e = record {
            item = x;
            there = (zero, omega arith, refl);
            has = is;
            least =
                λ other fault there has. first_or_rest x xs other
                (λ (z : X). (fault : ℕ × SetFault) → fault_of z ≡ Some fault → one.0 ≤ fault.0)
                (λ fault is_too. let same : one
                ≡ fault = cc in subst (λ (f : ℕ × SetFault). one.0 ≤ f.0) same (omega arith))
                (λ z in_xs fault is_too. let after : one.0
                ≤ found.0 = grind (arith, nat_tests) in let more = rest.least z fault in_xs is_too in omega
                (arith, after, more)) there fault has;
          }

-- ---- rising ids

pub first_at : {Y : Type 0} (g : ℕ → Option Y) (from count id : ℕ) (y : Y) → from ≤ id
    → id < from + count → ((k : ℕ) → k < id → g k ≡ None) → g id ≡ Some y
    → first_given g (range_with_len from count) ≡ Some y
first_at g from zero id y low high none here = absurd (omega arith)
first_at g from (suc count) id y low high none here =
    by (cases_lt from id) (λ before. first_at g (from + 1) count id y (omega arith) (omega arith) none here)
  where
    by : (from < id) ⊎ (id ≤ from) → (from < id → first_given g (range_with_len (from + 1) count) ≡ Some y)
        → first_given g (range_with_len from (suc count)) ≡ Some y
    by (inl before) rest =
        ap (λ found. option_or found (first_given g (range_with_len (from + 1) count))) (none from before)
        ∙ rest before
    by (inr not_before) rest =
        let same : id ≡ from = omega arith in
        ap (λ found. option_or found (first_given g (range_with_len (from + 1) count))) (ap g (sym same) ∙ here)

pub none_at : {Y : Type 0} (g : ℕ → Option Y) (from count : ℕ) → ((k : ℕ) → g k ≡ None)
    → first_given g (range_with_len from count) ≡ None
none_at g from zero none = refl
none_at g from (suc count) none =
    ap (λ found. option_or found (first_given g (range_with_len (from + 1) count))) (none from)
    ∙ none_at g (from + 1) count none

-- ---- the answer

pub fault_answered : (pool : PoolOf Node) (value : Composition) (painter other : Painter) (content : Content)
    (object : Object) (found : Option RegionFault) (answer : Option SegmentFault) → composition_of pool ≡ value
    → painter ≡ other
    → option_map told found ≡ least_of (fault_in_pair pool painter content object) (list_of pool 1)
    → answer ≡ option_map (λ (found : RegionFault). found.fault) found
    → option_map fault.Segment answer
    ≡ option_map (λ (found : ℕ × SetFault). found.1)
    (least_of (fault_in_kept other content object) value.regions)
fault_answered pool value painter other content object found answer view same is answer_is =
    ap (option_map fault.Segment) answer_is ∙ by found
    ∙ ap (option_map (λ (found : ℕ × SetFault). found.1))
    (is ∙ fault_of_nodes pool painter content object (list_of pool 1)
    ∙ (λ i. least_of (fault_in_kept (same i) content object) (view i).regions))
  where
    by : (found : Option RegionFault)
        → option_map fault.Segment (option_map (λ (found : RegionFault). found.fault) found)
        ≡ option_map (λ (found : ℕ × SetFault). found.1) (option_map told found)
    by None = refl
    by (Some one) = refl
