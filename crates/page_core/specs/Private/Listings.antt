-- What an object changes in the listings of a region (EN 300 743, clause 7.2.5): it paints those that name it and are
-- unpainted, or were painted with another version.
use Rattle.std.specs.Prelude.{◌≡◌, ℕ, ◌==◌, ◌&&◌, Bool, if◌then◌else◌, Option, Some, None}
use Rattle.segments.specs.declared.object.ObjectSeg.{ObjectSeg}
use Rattle.stream_syntax.specs.Segments.{Object}
use Rattle.decoder_model.specs.Taken.{has_new_version}
use Rattle.comp_pool.specs.declared.node.NodeId.{NodeId}
use Rattle.page_core.specs.Composition.{KeptListing}
use Rattle.page_core.specs.Private.Nodes.{listing_in}
use Rattle.page_core.specs.Private.Painted.{FieldRuns, code_by_fields}
use Rattle.page_core.specs.declared.composition.listings.Painter.{Painter}
use Rattle.page_core.specs.declared.node.ListingNode.{ListingNode}
use Rattle.page_core.specs.declared.node.Node.{Node}
use Rattle.page_core.specs.declared.node.Node.TheVariants as node

-- the object paints the listing
abbrev pub is_due : Painter → KeptListing → Bool
is_due object kept = (kept.listing.object == object.object) && has_new_version object.version kept.painted

-- the code that it puts there through a listing
abbrev pub code_by_kept : Painter → FieldRuns → ℕ → ℕ → KeptListing → Option ℕ
code_by_kept object fields x y kept =
    if is_due object kept then code_by_fields object.see_through fields x y kept.listing else None

-- a listing behind the object
abbrev pub painted_listing : Painter → KeptListing → KeptListing
painted_listing object kept =
    if is_due object kept then record { listing = kept.listing; painted = Some object.version } else kept

-- ---- nodes

-- the code that the object puts there through what a node has
abbrev pub code_by_node : Painter → FieldRuns → ℕ → ℕ → Option KeptListing → Option ℕ
code_by_node object fields x y None = None
code_by_node object fields x y (Some kept) = code_by_kept object fields x y kept

-- through what the node of a pair has
abbrev pub code_by_pair : Painter → FieldRuns → ℕ → ℕ → NodeId × Node → Option ℕ
code_by_pair object fields x y pair = code_by_node object fields x y (listing_in pair.1)

-- the object paints the listing that a node has
abbrev pub due_node : Painter → ListingNode → Bool
due_node object kept = (kept.listing.object == object.object) && has_new_version object.version kept.painted

-- what a node has behind the object: a listing that it paints has its version, and all else is as it was
abbrev pub painted_node : Painter → Node → Node
painted_node object (node.Entry entry) = node.Entry entry
painted_node object (node.Region region) = node.Region region
painted_node object (node.Listing kept) =
    node.Listing
    (if due_node object kept then record { listing = kept.listing; painted = Some object.version } else kept)
painted_node object (node.Clut clut) = node.Clut clut
painted_node object (node.Colour place) = node.Colour place

-- the painter is that of an object
pub record IsPainter (painter : Painter) (value : Object) : Type 0 where
  pub object : painter.object ≡ value.object
  pub version : painter.version ≡ value.version
  pub see_through : painter.see_through ≡ value.see_through

-- by what an object segment is painted
abbrev pub painter_of : ObjectSeg → Painter
painter_of object = record { object = object.object; version = object.version; see_through = object.see_through }
