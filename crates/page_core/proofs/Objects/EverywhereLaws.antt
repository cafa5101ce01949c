-- An object that is painted in all regions, one after another.
use Rattle.std.proofs.Common.{◌≡◌, ◌∙◌, refl, sym, ap, ℕ, Bool, true, false, cond, ltb, List, ◌∷◌, ◌++◌, Contains, Option, Some, None, option_map, arith}
use Rattle.std.specs.List.{list_any}
use Rattle.std.proofs.lemmas.Bool.Decides.{nat_tests}
use Rattle.stream_syntax.specs.Segments.{Object}
use Rattle.comp_pool.specs.declared.node.NodeId.{NodeId}
use Rattle.comp_pool.specs.Places.{behind, rest_from}
use Rattle.comp_pool.specs.Pool.{PoolOf, list_of}
use Rattle.decoder_model.specs.Faults.{depth_fault}
use Rattle.decoder_model.specs.Readings.{Content}
use Rattle.decoder_model.specs.declared.set_fault.SetFault.{SetFault}
use Rattle.page_core.specs.Private.Everywhere.{AreApart, painted_where}
use Rattle.page_core.specs.Private.Nodes.{is_region_of, listings_list}
use Rattle.page_core.specs.Private.ObjectFaults.{fault_in_node, fault_in_pair, in_region, is_due_pair, least_of, lesser}
use Rattle.page_core.specs.declared.composition.listings.Painter.{Painter}
use Rattle.page_core.specs.declared.node.Node.{Node}
use Rattle.page_core.specs.declared.node.Node.TheVariants as node
use Rattle.page_core.proofs.Objects.EverywhereWalks.{IsPaintingAll, from_node}

-- ---- the fault of the object

lesser_none : (found : Option (ℕ × SetFault)) → lesser found None ≡ found
lesser_none None = refl
lesser_none (Some one) = refl

-- the least of three
lesser_third : (a b c : Option (ℕ × SetFault)) → lesser (lesser a b) c ≡ lesser a (lesser b c)
lesser_third None b c = refl
lesser_third (Some a) None c = refl
lesser_third (Some a) (Some b) None = lesser_none (lesser (Some a) (Some b))
lesser_third (Some a) (Some b) (Some c) = by (ltb b.0 a.0) (ltb c.0 b.0) (ltb c.0 a.0) refl refl refl
  where
    below : (x y z : ℕ) → ltb x y ≡ true → ltb y z ≡ true → ltb x z ≡ true
    below x y z first second = grind (arith, nat_tests)

    above : (x y z : ℕ) → ltb x y ≡ false → ltb y z ≡ false → ltb x z ≡ false
    above x y z first second = grind (arith, nat_tests)

    left : (hit : Bool) → ltb b.0 a.0 ≡ hit
        → lesser (cond (ltb b.0 a.0) (Some b) (Some a)) (Some c) ≡ lesser (cond hit (Some b) (Some a)) (Some c)
    left hit is = λ i. lesser (cond (is i) (Some b) (Some a)) (Some c)

    right : (hit : Bool) → ltb c.0 b.0 ≡ hit
        → lesser (Some a) (cond hit (Some c) (Some b)) ≡ lesser (Some a) (cond (ltb c.0 b.0) (Some c) (Some b))
    right hit is = λ i. lesser (Some a) (cond (sym is i) (Some c) (Some b))

    chosen : (x y : ℕ × SetFault) (hit : Bool) → ltb y.0 x.0 ≡ hit
        → lesser (Some x) (Some y) ≡ cond hit (Some y) (Some x)
    chosen x y hit is = λ i. cond (is i) (Some y) (Some x)

    by : (ba cb ca : Bool) → ltb b.0 a.0 ≡ ba → ltb c.0 b.0 ≡ cb → ltb c.0 a.0 ≡ ca
        → lesser (cond (ltb b.0 a.0) (Some b) (Some a)) (Some c)
        ≡ lesser (Some a) (cond (ltb c.0 b.0) (Some c) (Some b))
    by true true ca is_b is_c is_a =
        left true is_b ∙ chosen b c true is_c ∙ sym (chosen a c true (below c.0 b.0 a.0 is_c is_b))
        ∙ right true is_c
    by true false ca is_b is_c is_a =
        left true is_b ∙ chosen b c false is_c ∙ sym (chosen a b true is_b) ∙ right false is_c
    by false true ca is_b is_c is_a = left false is_b ∙ right true is_c
    by false false ca is_b is_c is_a =
        left false is_b ∙ chosen a c false (above c.0 b.0 a.0 is_c is_b) ∙ sym (chosen a b false is_b)
        ∙ right false is_c

-- the least so far, and those of the nodes that come
abbrev pub IsLeastSoFar : Painter → Content → Object → PoolOf Node → Option NodeId
    → Option (ℕ × SetFault) → Type 0
IsLeastSoFar painter content object begin place least =
    lesser least (least_of (fault_in_pair begin painter content object) (rest_from place (list_of begin 1)))
    ≡ least_of (fault_in_pair begin painter content object) (list_of begin 1)

pub least_begins : (painter : Painter) (content : Content) (object : Object) (pool : PoolOf Node)
    (place : Option NodeId) → rest_from place (list_of pool 1) ≡ list_of pool 1
    → IsLeastSoFar painter content object pool place None
least_begins painter content object pool place whole = ap (least_of (fault_in_pair pool painter content object)) whole

pub least_ends : (painter : Painter) (content : Content) (object : Object) (begin : PoolOf Node) (place : Option NodeId)
    (least : Option (ℕ × SetFault)) → place ≡ None → IsLeastSoFar painter content object begin place least
    → least ≡ least_of (fault_in_pair begin painter content object) (list_of begin 1)
least_ends painter content object begin place least none so_far =
    sym (lesser_none least)
    ∙ ap (λ (o : Option NodeId). lesser least
    (least_of (fault_in_pair begin painter content object) (rest_from o (list_of begin 1)))) (sym none) ∙ so_far

-- a node has the fault by the lists of the beginning
fault_from_begin : (painter : Painter) (content : Content) (object : Object) (begin now : PoolOf Node)
    (place answer : Option NodeId) (at : NodeId) (item : Node) (on : IsPaintingAll painter begin place now)
    → AreApart begin
    → rest_from place (list_of begin 1) ≡ (at, item) ∷ rest_from answer (list_of begin 1)
    → fault_in_node now painter content object item ≡ fault_in_node begin painter content object item
fault_from_begin painter content object begin now place answer at (node.Entry entry) on apart rest = refl
fault_from_begin painter content object begin now place answer at (node.Region region) on apart rest =
    let split : on.before ++ (at, node.Region region) ∷ rest_from answer (list_of begin 1) ≡ list_of begin 1 =
    ap (λ (ps : List (NodeId × Node)). on.before ++ ps) (sym rest) ∙ on.all in
    let not_before : list_any (is_region_of region.head.region) on.before ≡ false =
    apart on.before (rest_from answer (list_of begin 1)) (at, node.Region region) region split refl in
    let same : list_of now (listings_list region.head.region) ≡ list_of begin (listings_list region.head.region) =
    on.listings region.head.region
    ∙ ap (λ (hit : Bool). painted_where painter hit (list_of begin (listings_list region.head.region)))
    not_before in
    ap (λ (ps : List (NodeId × Node)). cond (list_any (is_due_pair painter) ps)
    (option_map (in_region region.head.region) (depth_fault region.head.depth content object)) None) same
fault_from_begin painter content object begin now place answer at (node.Listing kept) on apart rest = refl
fault_from_begin painter content object begin now place answer at (node.Clut clut) on apart rest = refl
fault_from_begin painter content object begin now place answer at (node.Colour place_of) on apart rest = refl

pub least_goes_on : (painter : Painter) (content : Content) (object : Object) (begin now : PoolOf Node)
    (place answer : Option NodeId) (at : NodeId) (item : Node) (least found new : Option (ℕ × SetFault))
    → IsPaintingAll painter begin place now → place ≡ Some at → Contains (list_of now 1) (at, item)
    → answer ≡ behind at (list_of now 1) → AreApart begin
    → found ≡ fault_in_node now painter content object item → new ≡ lesser least found
    → IsLeastSoFar painter content object begin place least
    → IsLeastSoFar painter content object begin answer new
least_goes_on painter content object begin now place answer at item least found new on is there behind_is apart found_is
    new_is so_far =
    let rest = from_node painter begin place now at item answer on is there behind_is in
    let others : Option (ℕ × SetFault) =
    least_of (fault_in_pair begin painter content object) (rest_from answer (list_of begin 1)) in
    ap (λ (f : Option (ℕ × SetFault)). lesser f others)
    (new_is ∙ ap (lesser least)
    (found_is ∙ fault_from_begin painter content object begin now place answer at item on apart rest))
    ∙ lesser_third least (fault_in_node begin painter content object item) others
    ∙ ap (λ (ps : List (NodeId × Node)). lesser least (least_of (fault_in_pair begin painter content object) ps))
    (sym rest)
    ∙ so_far
