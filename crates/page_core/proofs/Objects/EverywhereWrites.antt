-- What an object writes to all regions, one after another.
use Rattle.std.proofs.Common.{◌≡◌, ◌∙◌, refl, sym, ap, subst, inl, inr, ℕ, ◌<◌, Bool, false, cond, List, ◌∷◌, ◌++◌, Contains, Option, Some, None, option_map, arith}
use Rattle.std.specs.List.{list_any, cons_option}
use Rattle.std.proofs.lemmas.Bool.{cases_eq}
use Rattle.sub_base.specs.Lists.{last_given}
use Rattle.stream_syntax.specs.Segments.{Object}
use Rattle.stream_syntax.specs.declared.region.RegionHead.{RegionHead}
use Rattle.comp_pool.specs.declared.node.NodeId.{NodeId}
use Rattle.comp_pool.specs.Places.{behind, rest_from}
use Rattle.comp_pool.specs.Pool.{PoolOf, list_of}
use Rattle.decoder_model.specs.Faults.{depth_fault}
use Rattle.decoder_model.specs.Readings.{Content}
use Rattle.pixel_store.specs.Regions.{Regions, KeepsOthers}
use Rattle.page_core.specs.Private.Everywhere.{HasNoFault, HasRegionAt, KeepsAt, KeepsRoom, IsWrittenIn, IsWrittenAt, painted_where, HasNoFaults, AreApart, AreWritten, HaveRegions}
use Rattle.page_core.specs.Private.Listings.{code_by_pair}
use Rattle.page_core.specs.Memory.{HasSidesOf}
use Rattle.page_core.specs.Private.Nodes.{kept_in, region_node, is_region_of, listings_list}
use Rattle.block_painting.specs.Writing.{IsWritten}
use Rattle.page_core.specs.Private.Painted.{HasRegion, field_runs}
use Rattle.page_core.specs.Private.ObjectFaults.{in_region, is_due_pair}
use Rattle.page_core.specs.declared.composition.listings.Painter.{Painter}
use Rattle.page_core.specs.declared.node.Node.{Node}
use Rattle.page_core.specs.declared.node.Node.TheVariants as node
use Rattle.page_core.specs.declared.node.RegionNode.{RegionNode}
use Rattle.page_core.proofs.Objects.EverywhereWalks.{IsPaintingAll, from_node}
use Rattle.page_core.proofs.Objects.Written.{same_region}

-- ---- regions stay where they are

region_stays : (head : RegionHead) (slot changed : ℕ) (old new : Regions) → KeepsOthers changed old new
    → HasRegion head slot old → HasRegion head slot new
region_stays head slot changed old new keeps region = elim (cases_eq slot changed) [
  | inl e ↦ subst (λ (s : ℕ). HasRegion head s new) (sym e)
      (same_region head changed old new keeps (subst (λ (s : ℕ). HasRegion head s old) e region))
  | inr ne ↦ record {
    placed = subst (λ (n : ℕ). slot < n) (sym keeps.count) region.placed;
    sides = subst (λ r. HasSidesOf head r) (sym (keeps.others slot ne)) region.sides;
  }
]

stays_at : (item other : Node) (old new : Regions) → KeepsAt item old new → HasRegionAt other old
    → HasRegionAt other new
stays_at item (node.Entry entry) old new keeps region = tt
stays_at (node.Entry entry) (node.Region region) old new keeps has =
    subst (λ (s : Regions). HasRegion region.head region.slot s) (sym keeps) has
stays_at (node.Region changed) (node.Region region) old new keeps has =
    region_stays region.head region.slot changed.slot old new keeps has
stays_at (node.Listing kept) (node.Region region) old new keeps has =
    subst (λ (s : Regions). HasRegion region.head region.slot s) (sym keeps) has
stays_at (node.Clut clut) (node.Region region) old new keeps has =
    subst (λ (s : Regions). HasRegion region.head region.slot s) (sym keeps) has
stays_at (node.Colour place) (node.Region region) old new keeps has =
    subst (λ (s : Regions). HasRegion region.head region.slot s) (sym keeps) has
stays_at item (node.Listing kept) old new keeps region = tt
stays_at item (node.Clut clut) old new keeps region = tt
stays_at item (node.Colour place) old new keeps region = tt

pub regions_stay : (pool : PoolOf Node) (item : Node) (old new : Regions) → KeepsAt item old new
    → HaveRegions pool old → HaveRegions pool new
regions_stay pool item old new keeps have = λ pair there. stays_at item pair.1 old new keeps (have pair there)

-- the room of a store stays
room_at : (item : Node) (old new : Regions) → KeepsAt item old new → KeepsRoom old new
room_at (node.Entry entry) old new keeps =
    subst (λ (s : Regions). KeepsRoom old s) (sym keeps) (record { count = refl; size = refl; free = refl })
room_at (node.Region region) old new keeps = record { count = keeps.count; size = keeps.size; free = keeps.free }
room_at (node.Listing kept) old new keeps =
    subst (λ (s : Regions). KeepsRoom old s) (sym keeps) (record { count = refl; size = refl; free = refl })
room_at (node.Clut clut) old new keeps =
    subst (λ (s : Regions). KeepsRoom old s) (sym keeps) (record { count = refl; size = refl; free = refl })
room_at (node.Colour place) old new keeps =
    subst (λ (s : Regions). KeepsRoom old s) (sym keeps) (record { count = refl; size = refl; free = refl })

pub room_kept : (item : Node) (begin old new : Regions) → KeepsAt item old new → KeepsRoom begin old
    → KeepsRoom begin new
room_kept item begin old new keeps before =
    let after = room_at item old new keeps in
    record {
      count = after.count ∙ before.count;
      size = after.size ∙ before.size;
      free = after.free
          ∙ before.free;
    }

-- ---- on the way

-- what the regions from a node on write is, behind what those before wrote, what all write
pub record IsWritingAll (painter : Painter) (content : Content) (object : Object) (begin : PoolOf Node)
    (before : Regions) (place : Option NodeId) (now : Regions) : Type 0 where
  pub whole : HasNoFaults painter content object begin → AreApart begin → (end : Regions)
      → AreWritten painter content begin (kept_in region_node (rest_from place (list_of begin 1))) now end
      → AreWritten painter content begin (kept_in region_node (list_of begin 1)) before end

pub writing_all_begins : (painter : Painter) (content : Content) (object : Object) (pool : PoolOf Node)
    (store : Regions) (place : Option NodeId) → rest_from place (list_of pool 1) ≡ list_of pool 1
    → IsWritingAll painter content object pool store place store
writing_all_begins painter content object pool store place whole = record {
  whole =
      λ no_faults apart end rest. subst
      (λ (ps : List (NodeId × Node)). AreWritten painter content pool (kept_in region_node ps) store end) whole rest;
}

-- a node with its region writes by the lists of the beginning
written_from_begin : (painter : Painter) (content : Content) (object : Object) (begin now : PoolOf Node)
    (region : RegionNode) (old new : Regions)
    → list_of now (listings_list region.head.region) ≡ list_of begin (listings_list region.head.region)
    → HasNoFault painter content object begin region
    → IsWrittenAt painter content object now (node.Region region) old new
    → IsWrittenIn painter content begin region old new
written_from_begin painter content object begin now region old new same no_fault written =
    subst (λ (ps : List (NodeId × Node)). IsWritten region.slot
    (λ x y. last_given (code_by_pair painter (field_runs region.head.depth content.top content.bottom) x y) ps) old
    new) same
    (written (ap
    (λ (ps : List (NodeId × Node)). cond (list_any (is_due_pair painter) ps)
    (option_map (in_region region.head.region) (depth_fault region.head.depth content object)) None) same
    ∙ no_fault))

pub writing_all_goes_on : (painter : Painter) (content : Content) (object : Object) (begin : PoolOf Node)
    (before : Regions) (place : Option NodeId) (now : PoolOf Node) (store next : Regions)
    (at : NodeId) (item : Node) (answer : Option NodeId) → IsPaintingAll painter begin place now
    → place ≡ Some at → Contains (list_of now 1) (at, item) → answer ≡ behind at (list_of now 1)
    → KeepsAt item store next → IsWrittenAt painter content object now item store next
    → IsWritingAll painter content object begin before place store
    → IsWritingAll painter content object begin before answer next
writing_all_goes_on painter content object begin before place now store next at item answer on is there behind_is keeps
    written writing =
    by item (from_node painter begin place now at item answer on is there behind_is)
    (subst (λ (ps : List (NodeId × Node)). Contains ps (at, item)) (on.low 1 (omega arith)) there) keeps written
  where
    passed : (item : Node) → rest_from place (list_of begin 1) ≡ (at, item) ∷ rest_from answer (list_of begin 1)
        → region_node item ≡ None → next ≡ store
        → IsWritingAll painter content object begin before answer next
    passed item rest none same = record {
      whole = λ no_faults apart end chain.
          writing.whole no_faults apart end
          (subst (λ (ps : List (NodeId × Node)). AreWritten painter content begin (kept_in region_node ps) store end)
          (sym rest)
          (subst (λ (o : Option RegionNode). AreWritten painter content begin
          (cons_option o (kept_in region_node (rest_from answer (list_of begin 1)))) store end) (sym none)
          (subst (λ (s : Regions). AreWritten painter content begin
          (kept_in region_node (rest_from answer (list_of begin 1))) s end) same chain)));
    }

    by : (item : Node) → rest_from place (list_of begin 1) ≡ (at, item) ∷ rest_from answer (list_of begin 1)
        → Contains (list_of begin 1) (at, item) → KeepsAt item store next
        → IsWrittenAt painter content object now item store next
        → IsWritingAll painter content object begin before answer next
    by (node.Entry entry) rest in_list keeps written = passed (node.Entry entry) rest refl keeps
    by (node.Region region) rest in_list keeps written = record {
      whole = λ no_faults apart end chain.
          let split : on.before ++ (at, node.Region region) ∷ rest_from answer (list_of begin 1) ≡ list_of begin 1 =
          ap (λ (ps : List (NodeId × Node)). on.before ++ ps) (sym rest) ∙ on.all in
          let not_before : list_any (is_region_of region.head.region) on.before ≡ false =
          apart on.before (rest_from answer (list_of begin 1)) (at, node.Region region) region split refl in
          let same : list_of now (listings_list region.head.region) ≡ list_of begin (listings_list region.head.region)
          = on.listings region.head.region
          ∙ ap (λ (hit : Bool). painted_where painter hit (list_of begin (listings_list region.head.region)))
          not_before in
          writing.whole no_faults apart end
          (subst (λ (ps : List (NodeId × Node)). AreWritten painter content begin (kept_in region_node ps) store end)
          (sym rest) (
            next,
            written_from_begin painter content object begin now region store next same
                (no_faults (at, node.Region region) region in_list refl) written,
            chain,
          ));
    }
    by (node.Listing kept) rest in_list keeps written = passed (node.Listing kept) rest refl keeps
    by (node.Clut clut) rest in_list keeps written = passed (node.Clut clut) rest refl keeps
    by (node.Colour place) rest in_list keeps written = passed (node.Colour place) rest refl keeps

pub writing_all_ends : (painter : Painter) (content : Content) (object : Object) (begin : PoolOf Node)
    (before : Regions) (place : Option NodeId) (now : Regions) → place ≡ None
    → IsWritingAll painter content object begin before place now → HasNoFaults painter content object begin
    → AreApart begin → AreWritten painter content begin (kept_in region_node (list_of begin 1)) before now
writing_all_ends painter content object begin before place now none writing no_faults apart =
    writing.whole no_faults apart now
    (subst (λ (o : Option NodeId). AreWritten painter content begin
    (kept_in region_node (rest_from o (list_of begin 1))) now now) (sym none) refl)
