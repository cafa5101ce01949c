-- The composition of a pool with one more region.
use Rattle.std.proofs.Common.{◌≡◌, ◌≢◌, ◌∙◌, ℕ, ◌+◌, ◌<◌, true, cond, List, [], ◌∷◌, ◌++◌, find, length, map, Option, Some, None, option_map, refl, sym, ap, subst, inl, inr, arith}
use Rattle.std.specs.Prelude.{option_and_then, slice_set, slice_index_or}
use Rattle.std.specs.Option.{is_some, option_or}
use Rattle.std.proofs.lemmas.Bool.{cases_eq, eq-eqb, ne_eqb}
use Rattle.std.proofs.lemmas.List.{get_or-set_same, get_or-set_other, length-set, map-append}
use Rattle.std.proofs.lemmas.List.Elements.{All-nil, All-cons, All-append, filter_map-append}
use Rattle.std.proofs.lemmas.List.Folds.{find-append}
use Rattle.comp_pool.specs.Changes.{pushed}
use Rattle.comp_pool.specs.Pool.{PoolOf, list_of, node_count}
use Rattle.comp_pool.specs.declared.node.NodeId.{NodeId}
use Rattle.page_core.specs.Composition.{AreIdsApart, Composition, KeptRegion, region_in, taken_nodes}
use Rattle.page_core.specs.Private.Nodes.{AreKind, IsIndexed, IsSorted, clut_node, colour_in, composition_of, entry_in, is_clut_of, is_region_of, kept_in, listing_in, listings_list, node_of, region_kept, region_node}
use Rattle.page_core.specs.Private.RegionSteps.{with_region}
use Rattle.page_core.specs.declared.node.Node.{Node}
use Rattle.page_core.specs.declared.node.Node.TheVariants as node
use Rattle.page_core.specs.declared.node.RegionNode.{RegionNode}
use Rattle.decoder_model.proofs.Searches.{option_or-none}
use Rattle.page_core.proofs.Regions.RegionHeadsSet.{found_in, region_of_id}
use Rattle.page_core.proofs.Regions.RegionNodes.{region_lookup}
use Rattle.page_core.proofs.Regions.StrayListings.{no_strays}

module _ (old new : PoolOf Node) (region : RegionNode) (name : NodeId)
    (put : new ≡ pushed 1 (name, node.Region region) old) (count : node_count new ≡ node_count old)
    (before : Composition) (view : composition_of old ≡ before) (region_nodes clut_nodes : List (Option NodeId))
    (kept : IsSorted old × IsIndexed old region_nodes clut_nodes)
    (fresh : region_in before region.head.region ≡ None) where
  list_new : list_of new 1 ≡ list_of old 1 ++ (name, node.Region region) ∷ []
  list_new =
      ap (λ (pool : PoolOf Node). list_of pool 1) put
      ∙ get_or-set_same old.lists 1 (list_of old 1 ++ (name, node.Region region) ∷ []) []
      (omega (arith, kept.0.lists))

  other : (k : ℕ) → k ≢ 1 → list_of new k ≡ list_of old k
  other k ne =
      ap (λ (pool : PoolOf Node). list_of pool k) put
      ∙ get_or-set_other old.lists 1 k (list_of old 1 ++ (name, node.Region region) ∷ []) [] ne

  -- no node has a region of the id yet
  none_found : find (is_region_of region.head.region) (list_of old 1) ≡ None
  none_found = by (find (is_region_of region.head.region) (list_of old 1)) refl
    where
      by : (found : Option (NodeId × Node)) → find (is_region_of region.head.region) (list_of old 1) ≡ found
          → found ≡ None
      by None is = refl
      by (Some found) is =
          let has =
          region_of_id region.head.region found.1 (region_node found.1) refl
          (found_in (is_region_of region.head.region) (list_of old 1) found is).passes in
          let there : region_in (composition_of old) region.head.region ≡ Some (region_kept old has.0) =
          region_lookup old region.head.region (list_of old 1)
          ∙ ap (λ (o : Option (NodeId × Node)). option_map (region_kept old)
          (option_and_then (λ (p : NodeId × Node). region_node p.1) o)) is
          ∙ ap (option_map (region_kept old)) has.1 in
          let none : region_in (composition_of old) region.head.region ≡ None =
          subst (λ (c : Composition). region_in c region.head.region ≡ None) (sym view) fresh in
          absurd (let no : None ≡ Some (region_kept old has.0) = sym none ∙ there in cc)

  same_kept : (r : RegionNode) → region_kept new r ≡ region_kept old r
  same_kept r i =
      record {
        head = r.head;
        slot = r.slot;
        listings = kept_in listing_in
            (other (listings_list r.head.region) (λ e. absurd (omega (arith, e))) i);
      }

  all_same : (regions : List RegionNode) → map (region_kept new) regions ≡ map (region_kept old) regions
  all_same [] = refl
  all_same (r ∷ regions) = λ i. same_kept r i ∷ all_same regions i

  pub value_with_region : before.free + taken_nodes before ≡ before.size → AreIdsApart before.regions
      → composition_of new ≡ with_region region.head region.slot before
  value_with_region counted apart =
      let strays : list_of old (listings_list region.head.region) ≡ [] =
      no_strays old region.head.region before view counted apart fresh in
      let kept_new : region_kept old region ≡ record { head = region.head; slot = region.slot; listings = [] } =
      λ i. record { head = region.head; slot = region.slot; listings = kept_in listing_in (strays i) } in
      let regions : map (region_kept new) (kept_in region_node (list_of new 1))
      ≡ map (region_kept old) (kept_in region_node (list_of old 1))
      ++ record { head = region.head; slot = region.slot; listings = [] } ∷ [] =
      all_same (kept_in region_node (list_of new 1))
      ∙ ap (λ (ps : List (NodeId × Node)). map (region_kept old) (kept_in region_node ps)) list_new
      ∙ ap (map (region_kept old))
      (filter_map-append (λ (q : NodeId × Node). region_node q.1) (list_of old 1)
      ((name, node.Region region) ∷ []))
      ∙ map-append (region_kept old) (kept_in region_node (list_of old 1)) (region ∷ [])
      ∙ ap (λ (r : KeptRegion). map (region_kept old) (kept_in region_node (list_of old 1)) ++ r ∷ []) kept_new in
      (λ i. record {
        size = count i;
        entries = kept_in entry_in (other 0 (λ e. absurd (omega (arith, e))) i);
        regions = regions i;
        cluts = kept_in clut_node (other 2 (λ e. absurd (omega (arith, e))) i);
        set_entries = kept_in colour_in (other 3 (λ e. absurd (omega (arith, e))) i);
        free = ap (λ (pool : PoolOf Node). pool.free) put i;
      })
      ∙ ap (with_region region.head region.slot) view

  named : (k : ℕ) → k < 256 → region.head.region < 256 → length region_nodes ≡ 256
      → slice_index_or (slice_set region_nodes region.head.region (Some name)) k None
      ≡ option_map node_of (find (is_region_of k) (list_of new 1))
  named k below low whole = elim (cases_eq k region.head.region) [
    | inl same ↦
        ap (λ n. slice_index_or (slice_set region_nodes region.head.region (Some name)) n None) same
        ∙ get_or-set_same region_nodes region.head.region (Some name) None (omega (arith, low, whole))
        ∙ sym (ap (option_map node_of) (
        ap (find (is_region_of k)) list_new
        ∙ find-append (is_region_of k) (list_of old 1) ((name, node.Region region) ∷ [])
        ∙ ap (λ (o : Option (NodeId × Node)). option_or o
        (find (is_region_of k) ((name, node.Region region) ∷ [])))
        (ap (λ n. find (is_region_of n) (list_of old 1)) same ∙ none_found)
        ∙ ap (λ b. cond b (Some (name, node.Region region)) None) (eq-eqb region.head.region k (sym same))))
    | inr ne ↦
        get_or-set_other region_nodes region.head.region k (Some name) None ne
        ∙ kept.1.regions k below
        ∙ sym (ap (option_map node_of) (
        ap (find (is_region_of k)) list_new
        ∙ find-append (is_region_of k) (list_of old 1) ((name, node.Region region) ∷ [])
        ∙ ap (λ b. option_or (find (is_region_of k) (list_of old 1)) (cond b (Some (name, node.Region region)) None))
        (ne_eqb region.head.region k (λ e. ne (sym e)))
        ∙ option_or-none (find (is_region_of k) (list_of old 1))))
  ]

  pub sorted_with_region : (names : List (Option NodeId))
      → names ≡ slice_set region_nodes region.head.region (Some name) → region.head.region < 256
      → length region_nodes ≡ 256 → IsSorted new × IsIndexed new names clut_nodes
  sorted_with_region names names_are low whole =
      let is_kind : NodeId × Node → Type 0 = λ p. is_some (region_node p.1) ≡ true in (
        record {
          lists =
              ap (λ (pool : PoolOf Node). length pool.lists) put
              ∙ length-set old.lists 1 (list_of old 1 ++ (name, node.Region region) ∷ []) ∙ kept.0.lists;
          entries = subst (AreKind entry_in) (sym (other 0 (λ e. absurd (omega (arith, e))))) kept.0.entries;
          regions = subst (AreKind region_node) (sym list_new)
              (All-append is_kind (list_of old 1) ((name, node.Region region) ∷ []) kept.0.regions
              (All-cons is_kind (name, node.Region region) [] refl (All-nil is_kind)));
          cluts = subst (AreKind clut_node) (sym (other 2 (λ e. absurd (omega (arith, e))))) kept.0.cluts;
          colours = subst (AreKind colour_in) (sym (other 3 (λ e. absurd (omega (arith, e))))) kept.0.colours;
          listings =
              λ k below. subst (AreKind listing_in) (sym (other (listings_list k) (λ e. absurd (omega (arith, e)))))
              (kept.0.listings k below);
        },
        record {
          regions =
              λ k below. ap (λ (ns : List (Option NodeId)). slice_index_or ns k None) names_are
              ∙ named k below low whole;
          cluts =
              λ k below. kept.1.cluts k below
              ∙ ap (λ (ps : List (NodeId × Node)). option_map node_of (find (is_clut_of k) ps))
              (sym (other 2 (λ e. absurd (omega (arith, e)))));
        },
      )
