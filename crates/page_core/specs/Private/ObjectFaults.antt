-- The fault of an object in the regions in which it paints: that of the region of the least id.
use Rattle.std.specs.Prelude.{ℕ, Bool, false, nat_lt, if◌then◌else◌, List, [], ◌∷◌, Option, Some, None, option_map}
use Rattle.std.specs.List.{list_any}
use Rattle.sub_base.specs.declared.depth.Depth.{Depth}
use Rattle.stream_syntax.specs.Segments.{Object}
use Rattle.comp_pool.specs.Pool.{PoolOf, list_of}
use Rattle.comp_pool.specs.declared.node.NodeId.{NodeId}
use Rattle.decoder_model.specs.Faults.{depth_fault}
use Rattle.decoder_model.specs.Readings.{Content}
use Rattle.decoder_model.specs.declared.set_fault.SetFault.{SetFault}
use Rattle.decoder_model.specs.declared.set_fault.SetFault.TheVariants as fault
use Rattle.page_core.specs.Composition.{KeptRegion}
use Rattle.page_core.specs.Private.Listings.{is_due, due_node}
use Rattle.page_core.specs.Private.Nodes.{listings_list}
use Rattle.page_core.specs.declared.composition.listings.Painter.{Painter}
use Rattle.page_core.specs.declared.composition.objects.RegionFault.{RegionFault}
use Rattle.page_core.specs.declared.node.Node.{Node}
use Rattle.page_core.specs.declared.node.Node.TheVariants as node
use Rattle.page_core.specs.declared.node.RegionNode.{RegionNode}

-- the fault with the lesser id, the first of two with one id
abbrev pub lesser : Option (ℕ × SetFault) → Option (ℕ × SetFault) → Option (ℕ × SetFault)
lesser None other = other
lesser (Some one) None = Some one
lesser (Some one) (Some other) = if nat_lt other.0 one.0 then Some other else Some one

-- of what some items have the fault with the least id
abbrev pub least_of : {X : Type 0} → (X → Option (ℕ × SetFault)) → List X → Option (ℕ × SetFault)
least_of fault_of [] = None
least_of fault_of (item ∷ items) = lesser (fault_of item) (least_of fault_of items)

-- with the id of its region
abbrev pub in_region : ℕ → SetFault → ℕ × SetFault
in_region id found = (id, found)

-- the fault of an object in a region that is kept, where it paints a listing there
abbrev pub fault_in_kept : Painter → Content → Object → KeptRegion → Option (ℕ × SetFault)
fault_in_kept painter content object kept =
    if list_any (is_due painter) kept.listings
    then option_map (in_region kept.head.region) (depth_fault kept.head.depth content object) else None

-- ---- nodes

-- the object paints through a node
abbrev pub is_due_node : Painter → Node → Bool
is_due_node painter (node.Entry entry) = false
is_due_node painter (node.Region region) = false
is_due_node painter (node.Listing kept) = due_node painter kept
is_due_node painter (node.Clut clut) = false
is_due_node painter (node.Colour place) = false

-- the object paints through the node of a pair
abbrev pub is_due_pair : Painter → NodeId × Node → Bool
is_due_pair painter pair = is_due_node painter pair.1

-- its fault through a node, in a region of a depth
abbrev pub fault_by_node : Painter → Depth → Content → Object → Node → Option SetFault
fault_by_node painter depth content object item =
    if is_due_node painter item then depth_fault depth content object else None

-- its fault through the nodes of a list
abbrev pub fault_through : Painter → Depth → Content → Object → List (NodeId × Node) → Option SetFault
fault_through painter depth content object pairs =
    if list_any (is_due_pair painter) pairs then depth_fault depth content object else None

-- the fault in the region of a node
abbrev pub fault_in_region_node : PoolOf Node → Painter → Content → Object → RegionNode
    → Option (ℕ × SetFault)
fault_in_region_node pool painter content object region =
    if list_any (is_due_pair painter) (list_of pool (listings_list region.head.region))
    then option_map (in_region region.head.region) (depth_fault region.head.depth content object) else None

-- the fault of the object in the region that a node has, with the id of the region; none where it has no region
abbrev pub fault_in_node : PoolOf Node → Painter → Content → Object → Node → Option (ℕ × SetFault)
fault_in_node pool painter content object (node.Entry entry) = None
fault_in_node pool painter content object (node.Region region) = fault_in_region_node pool painter content object region
fault_in_node pool painter content object (node.Listing kept) = None
fault_in_node pool painter content object (node.Clut clut) = None
fault_in_node pool painter content object (node.Colour place) = None

-- the fault of the object in the region that the node of a pair has, with the id of the region
abbrev pub fault_in_pair : PoolOf Node → Painter → Content → Object → NodeId × Node
    → Option (ℕ × SetFault)
fault_in_pair pool painter content object pair = fault_in_node pool painter content object pair.1

-- what a value of the program tells
abbrev pub told : RegionFault → ℕ × SetFault
told found = (found.region, fault.Segment found.fault)
