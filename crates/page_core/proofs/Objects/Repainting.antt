-- The listings of a region that an object paints, one after another.
use Rattle.std.proofs.Common.{◌≡◌, ◌∙◌, refl, sym, ap, subst, ℕ, Bool, true, false, ◌||◌, cond, List, [], ◌∷◌, Contains, Option, Some, None, option_map}
use Rattle.std.specs.List.{list_any}
use Rattle.std.specs.Option.{option_or}
use Rattle.sub_base.specs.Lists.{last_given}
use Rattle.sub_base.specs.declared.depth.Depth.{Depth}
use Rattle.comp_pool.specs.declared.node.NodeId.{NodeId}
use Rattle.comp_pool.specs.Pool.{PoolOf, list_of, IsInList, NoneTwice, node_count}
use Rattle.comp_pool.specs.Places.{first_of, behind}
use Rattle.comp_pool.specs.Changes.{replaced}
use Rattle.decoder_model.specs.Faults.{depth_fault}
use Rattle.decoder_model.specs.Readings.{Content, AreObjectFields}
use Rattle.decoder_model.specs.declared.set_fault.SetFault.{SetFault}
use Rattle.decoder_model.specs.declared.set_fault.SetFault.TheVariants.{Segment}
use Rattle.decoder_model.proofs.Searches.{option_or-none, option_or-assoc}
use Rattle.pixel_store.specs.Regions.{Regions, KeepsOthers}
use Rattle.stream_syntax.specs.Segments.{Object, of_object}
use Rattle.stream_syntax.specs.declared.region.RegionHead.{RegionHead}
use Rattle.stream_syntax.specs.declared.segment_fault.SegmentFault.{SegmentFault}
use Rattle.block_painting.specs.Writing.{IsWritten}
use Rattle.page_core.specs.Private.Listings.{code_by_node, code_by_pair, painted_node}
use Rattle.page_core.specs.Private.Lists.{IsRewritten}
use Rattle.page_core.specs.Private.Nodes.{listing_in}
use Rattle.page_core.specs.Private.ObjectFaults.{fault_by_node, fault_through, is_due_node, is_due_pair}
use Rattle.page_core.specs.Private.Painted.{HasRegion, field_runs}
use Rattle.page_core.specs.declared.composition.listings.Painter.{Painter}
use Rattle.page_core.specs.declared.node.Node.{Node}
use Rattle.page_core.proofs.Objects.Rewriting.{IsRewriting, rewriting_begins, node_comes, item_comes, rewriting_goes_on, rewriting_ends}
use Rattle.block_painting.proofs.Written.{IsWriting, writing_begins, writing_goes_on, writing_ends, keeps_all, keeps_twice}
use Rattle.page_core.proofs.Objects.Written.{same_region}

-- ---- the fault through some nodes and those behind them

map-or : {X Y : Type 0} (f : X → Y) (one other : Option X)
    → option_map f (option_or one other) ≡ option_or (option_map f one) (option_map f other)
map-or f None other = refl
map-or f (Some x) other = refl

-- the fault through one node, and else through those behind it
one_more : (hit rest : Bool) (found : Option SetFault)
    → option_or (cond hit found None) (cond rest found None) ≡ cond (hit || rest) found None
one_more false rest found = refl
one_more true false found = option_or-none found
one_more true true None = refl
one_more true true (Some fault) = refl

-- ---- on the way

module _ (l : ℕ) (painter : Painter) (object : Object) (depth : Depth) (slot : ℕ) where
  -- the sub-blocks of the object's fields
  abbrev pub HasFields : Content → Type 0
  HasFields content = AreObjectFields (of_object object) content.top content.bottom

  -- some of the nodes are painted, and the others are behind them
  pub record IsRepainting (begin : PoolOf Node) (before : Regions) (place : Option NodeId) (now : PoolOf Node)
      (store : Regions) (found : Option SegmentFault) : Type 0 where
    pub rest : List (NodeId × Node)
    pub nodes : IsRewriting l (painted_node painter) begin rest place now
    pub others : KeepsOthers slot before store
    pub faults : (content : Content) → HasFields content
        → option_or (option_map Segment found) (fault_through painter depth content object rest)
        ≡ fault_through painter depth content object (list_of begin l)
    pub writing : (content : Content) → HasFields content
        → fault_through painter depth content object (list_of begin l) ≡ None
        → IsWriting slot (code_by_pair painter (field_runs depth content.top content.bottom)) (list_of begin l) before
        rest store

  pub repainting_begins : (pool : PoolOf Node) (store : Regions) (place : Option NodeId) → NoneTwice pool
      → place ≡ first_of (list_of pool l) → IsRepainting pool store place pool store None
  repainting_begins pool store place one first = record {
    rest = list_of pool l;
    nodes = rewriting_begins l (painted_node painter) pool place one first;
    others = keeps_all slot store;
    faults = λ content fields. refl;
    writing = λ content fields none.
        writing_begins slot (code_by_pair painter (field_runs depth content.top content.bottom)) (list_of pool l) store;
  }

  module _ (begin : PoolOf Node) (before : Regions) (place : Option NodeId) (now : PoolOf Node) (store : Regions)
      (found : Option SegmentFault) (on : IsRepainting begin before place now store found) where
    -- the node that comes is in the list
    pub node_is_listed : (node : NodeId) → place ≡ Some node → IsInList now l node
    node_is_listed node is = by on.rest on.nodes
      where
        by : (rest : List (NodeId × Node)) → IsRewriting l (painted_node painter) begin rest place now
            → IsInList now l node
        by [] nodes = let at = nodes.at in absurd (cc)
        by (p ∷ vs) nodes =
            let at = nodes.at in
            let same : p.0 ≡ node = cc in
            subst (λ (m : NodeId). IsInList now l m) same
            (node_comes l (painted_node painter) begin p vs place now nodes)

    -- behind it the painting goes on
    pub repainting_goes_on : (node : NodeId) (read : Node) (answer : Option NodeId) (new : PoolOf Node) (item : Node)
        (next : Regions) (here later : Option SegmentFault) → place ≡ Some node
        → Contains (list_of now l) (node, read)
        → answer ≡ behind node (list_of now l) → item ≡ painted_node painter read
        → KeepsOthers slot store next
        → ((content : Content) → HasFields content
        → option_map Segment here ≡ fault_by_node painter depth content object read)
        → ((content : Content) → HasFields content → fault_by_node painter depth content object read ≡ None
        → IsWritten slot
        (λ x y. code_by_node painter (field_runs depth content.top content.bottom) x y (listing_in read)) store next)
        → later ≡ option_or found here
        → new ≡ replaced node item now → NoneTwice new → node_count new ≡ node_count now
        → IsRepainting begin before answer new next later
    repainting_goes_on node read answer new item next here later is there behind_is item_is keeps fault_is written
        later_is set one count = by on.rest on.nodes on.faults on.writing
      where
        -- the fault through the node that comes goes from those that are left to what is found
        step : (content : Content) (hit rest : Bool)
            → option_map Segment here ≡ cond hit (depth_fault depth content object) None
            → option_or (option_map Segment later) (cond rest (depth_fault depth content object) None)
            ≡ option_or (option_map Segment found) (cond (hit || rest) (depth_fault depth content object) None)
        step content hit rest here_is =
            ap (λ (o : Option SegmentFault). option_or (option_map Segment o)
            (cond rest (depth_fault depth content object) None)) later_is
            ∙ ap (λ (o : Option SetFault). option_or o (cond rest (depth_fault depth content object) None))
            (map-or Segment found here)
            ∙ option_or-assoc (option_map Segment found) (option_map Segment here)
            (cond rest (depth_fault depth content object) None)
            ∙ ap (option_or (option_map Segment found))
            (ap (λ (o : Option SetFault). option_or o (cond rest (depth_fault depth content object) None)) here_is
            ∙ one_more hit rest (depth_fault depth content object))

        -- where there is none through all, there is none through the node that comes
        none_here : (content : Content) (hit rest : Bool)
            → option_or (option_map Segment found) (cond (hit || rest) (depth_fault depth content object) None) ≡ None
            → cond hit (depth_fault depth content object) None ≡ None
        none_here content false rest e = refl
        none_here content true rest e = by_found (option_map Segment found) e
          where
            by_found : (first : Option SetFault) → option_or first (depth_fault depth content object) ≡ None
                → depth_fault depth content object ≡ None
            by_found None e = e
            by_found (Some fault) e = absurd (cc)

        by : (rest : List (NodeId × Node)) → IsRewriting l (painted_node painter) begin rest place now
            → ((content : Content) → HasFields content
            → option_or (option_map Segment found) (fault_through painter depth content object rest)
            ≡ fault_through painter depth content object (list_of begin l))
            → ((content : Content) → HasFields content
            → fault_through painter depth content object (list_of begin l) ≡ None
            → IsWriting slot (code_by_pair painter (field_runs depth content.top content.bottom)) (list_of begin l)
            before rest store)
            → IsRepainting begin before answer new next later
        by [] nodes faults writing = let at = nodes.at in absurd (cc)
        by (p ∷ vs) nodes faults writing =
            let at = nodes.at in
            let same : node ≡ p.0 = cc in
            let read_is : read ≡ p.1 =
            item_comes l (painted_node painter) begin p vs place now nodes read
            (subst (λ (m : NodeId). Contains (list_of now l) (m, read)) same there) in
            record {
              rest = vs;
              nodes =
                  rewriting_goes_on l (painted_node painter) begin p vs place now nodes answer new
                  (behind_is ∙ ap (λ (m : NodeId). behind m (list_of now l)) same)
                  (set ∙ (λ i. replaced (same i) ((item_is ∙ ap (painted_node painter) read_is) i) now)) one count;
              others = keeps_twice slot before store next on.others keeps;
              faults = λ content fields.
                  step content (is_due_node painter p.1) (list_any (is_due_pair painter) vs)
                  (fault_is content fields
                  ∙ ap (λ (n : Node). fault_by_node painter depth content object n) read_is)
                  ∙ faults content fields;
              writing = λ content fields none.
                  writing_goes_on slot (code_by_pair painter (field_runs depth content.top content.bottom))
                  (list_of begin l) before p vs store next (writing content fields none)
                  (subst (λ (n : Node). IsWritten slot
                  (λ x y. code_by_node painter (field_runs depth content.top content.bottom) x y (listing_in n)) store
                  next) read_is
                  (written content fields
                  (ap (λ (n : Node). fault_by_node painter depth content object n) read_is
                  ∙ none_here content (is_due_node painter p.1) (list_any (is_due_pair painter) vs)
                  (faults content fields ∙ none))));
            }

    -- the region is where it was
    pub region_stays : (head : RegionHead) → HasRegion head slot before → HasRegion head slot store
    region_stays head region = same_region head slot before store on.others region

    -- none is left: all nodes are changed
    pub nodes_end : place ≡ None → IsRewritten l (painted_node painter) begin now
    nodes_end none = (rewriting_ends l (painted_node painter) begin on.rest place now on.nodes none).0

    -- the fault is that through all of them
    pub faults_end : place ≡ None → (content : Content) → HasFields content
        → option_map Segment found ≡ fault_through painter depth content object (list_of begin l)
    faults_end none content fields =
        let end = rewriting_ends l (painted_node painter) begin on.rest place now on.nodes none in
        sym (option_or-none (option_map Segment found))
        ∙ ap (λ (rest : List (NodeId × Node)). option_or (option_map Segment found)
        (fault_through painter depth content object rest)) (sym end.1) ∙ on.faults content fields

    -- and where there is none, what all of them write is written
    pub writing_is_whole : place ≡ None → (content : Content) → HasFields content
        → fault_through painter depth content object (list_of begin l) ≡ None
        → IsWritten slot
        (λ x y. last_given (code_by_pair painter (field_runs depth content.top content.bottom) x y) (list_of begin l))
        before store
    writing_is_whole none content fields no_fault =
        let end = rewriting_ends l (painted_node painter) begin on.rest place now on.nodes none in
        let code_by = code_by_pair painter (field_runs depth content.top content.bottom) in
        writing_ends slot code_by (list_of begin l) before store
        (subst (λ (rest : List (NodeId × Node)). IsWriting slot code_by (list_of begin l) before rest store) end.1
        (on.writing content fields no_fault))
