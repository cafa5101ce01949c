-- What a CLUT segment changes in a memory (EN 300 743, clause 7.2.4).
use Rattle.std.specs.Prelude.{◌≡◌, ℕ, ◌+◌, ◌-◌, ◌==◌, ◌≤◌, ◌<◌, ◌&&◌, nat_lt, if◌then◌else◌, List, [], ◌∷◌, ◌++◌, filter, length, map, reverse, Contains, Option, Some, None, option_map, unwrap_or}
use Rattle.std.specs.List.{list_any}
use Rattle.std.specs.Option.{is_some}
use Rattle.sub_base.specs.Colour.{default_of}
use Rattle.sub_base.specs.Depth.{code_count}
use Rattle.sub_base.specs.Lists.{different, first_given}
use Rattle.sub_base.specs.declared.colour.Colour.{Colour}
use Rattle.sub_base.specs.declared.depth.Depth.{Depth}
use Rattle.sub_base.specs.declared.depth.Depth.TheVariants.{Two, Four, Eight}
use Rattle.stream_syntax.specs.Segments.{Clut}
use Rattle.stream_syntax.specs.declared.clut.ClutEntry.{ClutEntry}
use Rattle.decoder_model.specs.Contents.{clut_of}
use Rattle.decoder_model.specs.Ink.{is_in_table}
use Rattle.decoder_model.specs.Nodes.{TableEntry, is_same_entry, clut_ids, table_entries}
use Rattle.decoder_model.specs.Readings.{Content}
use Rattle.decoder_model.specs.Taken.{taken_of, version_of_clut, last_clut}
use Rattle.comp_pool.specs.Pool.{PoolOf, list_of}
use Rattle.comp_pool.specs.declared.node.NodeId.{NodeId}
use Rattle.page_core.specs.Composition.{Composition, KeptClut, clut_in}
use Rattle.page_core.specs.Private.Lists.{KeepsBeside}
use Rattle.page_core.specs.Private.Marks.{AreMarked}
use Rattle.page_core.specs.Memory.{AreInks, Memory, ink_in}
use Rattle.page_core.specs.Private.Nodes.{clut_node}
use Rattle.page_core.specs.Private.Walks.{is_clut}
use Rattle.page_core.specs.declared.marks.Mark.{Mark}
use Rattle.page_core.specs.declared.node.Node.{Node}

-- ---- the composition memory

-- the first CLUT of that id has that version
abbrev pub with_version : ℕ → ℕ → List KeptClut → List KeptClut
with_version clut version [] = []
with_version clut version (kept ∷ cluts) =
    if kept.clut == clut then record { clut = clut; version = version } ∷ cluts
    else kept ∷ with_version clut version cluts

-- with these CLUTs, and so many free nodes
abbrev pub with_cluts : List KeptClut → ℕ → Composition → Composition
with_cluts cluts free composition = record composition { cluts = cluts; free = free }

-- the CLUT of that id has that version: it is one that was there, or it is new and takes a node, where one is free
abbrev pub with_clut : ℕ → ℕ → Composition → Composition
with_clut clut version composition =
    if is_some (clut_in composition clut)
    then with_cluts (with_version clut version composition.cluts) composition.free composition else
    if composition.free == 0 then composition else
    with_cluts (composition.cluts ++ record { clut = clut; version = version } ∷ []) (composition.free - 1)
    composition

-- one more table entry is set
abbrev pub with_colour : TableEntry → Composition → Composition
with_colour entry composition = record composition {
  set_entries = composition.set_entries ++ entry ∷ [];
  free = composition.free - 1;
}

-- ---- its nodes

-- what a node of list 2 has, as the version of a CLUT
abbrev pub IsVersionOf : PoolOf Node → Option NodeId → Option ℕ → Type 0
IsVersionOf pool None found = found ≡ None
IsVersionOf pool (Some name) found = (item : Node) × Contains (list_of pool 2) (name, item)
    × (found ≡ option_map (λ (kept : KeptClut). kept.version) (clut_node item))

-- a pair stands behind those of list l that were there, and takes a node
pub record IsPushed {T : Type 0} (l : ℕ) (pair : NodeId × T) (old new : PoolOf T) : Type 0 where
  pub beside : KeepsBeside l old new
  pub list : list_of new l ≡ list_of old l ++ pair ∷ []
  pub free : new.free ≡ old.free - 1

-- ---- what is set, by what was placed

-- a colour that was given to an entry
pub record Placed : Type 0 where
  pub entry : TableEntry
  pub colour : Colour

-- the colour that was given to an entry
abbrev pub colour_at : TableEntry → Placed → Option Colour
colour_at asked placed = if is_same_entry asked placed.entry then Some placed.colour else None

-- its colour, where these were placed, the latest first
abbrev pub placed_colour : List Placed → TableEntry → Colour
placed_colour placed asked = unwrap_or (first_given (colour_at asked) placed) (default_of asked.depth asked.entry)

-- the table entry to which a colour was given
abbrev pub entry_of : Placed → TableEntry
entry_of placed = placed.entry

-- an entry of a CLUT segment is placed in the table of a depth, where it is flagged for the table and the table has it
abbrev pub in_depth : ℕ → ClutEntry → Depth → List Placed → List Placed
in_depth clut entry depth placed =
    if is_in_table depth entry && nat_lt entry.entry (code_count depth)
    then record { entry = record { clut = clut; depth = depth; entry = entry.entry }; colour = entry.colour } ∷ placed
    else placed

-- an entry of a segment of the CLUT of that id is placed in each of the three tables for which it is flagged and that
-- have it
abbrev pub in_depths : ℕ → ClutEntry → List Placed → List Placed
in_depths clut entry placed = in_depth clut entry Eight (in_depth clut entry Four (in_depth clut entry Two placed))

-- the entries of a segment of the CLUT of that id are placed one after another, behind what was placed before
abbrev pub with_entries_of : ℕ → List ClutEntry → List Placed → List Placed
with_entries_of clut [] placed = placed
with_entries_of clut (entry ∷ entries) placed = with_entries_of clut entries (in_depths clut entry placed)

-- the entries of a CLUT segment are placed behind what was placed before; without such a segment nothing more is
abbrev pub with_segment : Option Clut → List Placed → List Placed
with_segment None placed = placed
with_segment (Some clut) placed = with_entries_of clut.clut clut.entries placed

-- what taken segments place, the latest first
abbrev pub placed_by : List Content → List Placed
placed_by [] = []
placed_by (content ∷ earlier) = with_segment (clut_of content) (placed_by earlier)

-- these table entries are set, each once, and have these colours
pub record AreSetBy (placed : List Placed) (set : List TableEntry) (inks : List Colour) : Type 0 where
  pub colours : (id : ℕ) (depth : Depth) (number : ℕ) → id < 256 → number < code_count depth →
      ink_in inks id depth number ≡ placed_colour placed (record { clut = id; depth = depth; entry = number })
  pub members : (entry : TableEntry)
      → list_any (is_same_entry entry) set ≡ list_any (is_same_entry entry) (map entry_of placed)
  pub count : length set ≡ length (different is_same_entry (map entry_of placed))

-- ---- steps

-- one more is placed
abbrev pub with_place : TableEntry → Colour → List Placed → List Placed
with_place entry colour placed = record { entry = entry; colour = colour } ∷ placed

-- a table entry is set: it is one that was, or takes a node, where one is free
abbrev pub with_set : TableEntry → Composition → Composition
with_set entry composition =
    if list_any (is_same_entry entry) composition.set_entries then composition else
    if composition.free == 0 then composition else
    with_colour entry composition

-- how many nodes the entries need that were placed
abbrev pub entries_placed : List Placed → ℕ
entries_placed placed = length (different is_same_entry (map entry_of placed))

-- colours and marks go with the entries that are set
pub record AreColoured (composition : Composition) (inks : List Colour) (marks : List Mark) : Type 0 where
  pub coloured : AreInks composition.set_entries inks
  pub marked : AreMarked composition.set_entries [] marks

-- all but the entries that are set stays, and these take their nodes of the free ones
pub record IsKeptBut (old new : Composition) : Type 0 where
  pub size : new.size ≡ old.size
  pub entries : new.entries ≡ old.entries
  pub regions : new.regions ≡ old.regions
  pub cluts : new.cluts ≡ old.cluts
  pub total : new.free + length new.set_entries ≡ old.free + length old.set_entries

-- all but CLUTs and entries that are set stays, and these take their nodes of the free ones
pub record IsKeptBeside (old new : Composition) : Type 0 where
  pub size : new.size ≡ old.size
  pub entries : new.entries ≡ old.entries
  pub regions : new.regions ≡ old.regions
  pub total : new.free + length new.cluts + length new.set_entries
      ≡ old.free + length old.cluts + length old.set_entries

-- whatever was placed, with room for more those are placed too
abbrev pub SetsMore : (List Placed → List Placed) → Composition → List Colour → Composition → List Colour
    → Type 0
SetsMore more old old_inks new new_inks = (placed : List Placed) → AreSetBy placed old.set_entries old_inks
    → entries_placed (more placed) ≤ old.free + length old.set_entries
    → AreSetBy (more placed) new.set_entries new_inks

-- a memory has the CLUTs and colours of these segments of an epoch, the latest first
pub record HasColours (segments : List Content) (composition : Composition) (inks : List Colour) : Type 0 where
  pub clut_ids : map (λ (kept : KeptClut). kept.clut) composition.cluts ≡ reverse (clut_ids (taken_of segments))
  pub versions : (id : ℕ) →
      option_map (λ (kept : KeptClut). kept.version) (clut_in composition id)
      ≡ version_of_clut (last_clut id (taken_of segments).segments)
  pub set : AreSetBy (placed_by (taken_of segments).segments) composition.set_entries inks

-- its nodes for CLUTs and entries, with those that are free, are as many as these segments need
abbrev pub HasRoomFor : List Content → Composition → Type 0
HasRoomFor segments composition =
    length (clut_ids (taken_of segments)) + length (table_entries (taken_of segments))
    ≤ composition.free + length composition.cluts + length composition.set_entries

-- ---- a set

-- as many nodes are free, with those that CLUTs and table entries have, as these need after the CLUT segments of a set
abbrev pub HasRoomForCluts : List Content → List Content → Memory → Type 0
HasRoomForCluts older set memory = HasRoomFor (reverse (filter is_clut set) ++ older) memory.composition

-- all but CLUTs and colours stays
pub record KeepsButColours (old new : Memory) : Type 0 where
  pub profile : new.profile ≡ old.profile
  pub page : new.page ≡ old.page
  pub anchor : new.anchor ≡ old.anchor
  pub last : new.last ≡ old.last
  pub known : new.known ≡ old.known
  pub time_out : new.time_out ≡ old.time_out
  pub display : new.display ≡ old.display
  pub size : new.composition.size ≡ old.composition.size
  pub entries : new.composition.entries ≡ old.composition.entries
  pub regions : new.composition.regions ≡ old.composition.regions
  pub store : new.store ≡ old.store
