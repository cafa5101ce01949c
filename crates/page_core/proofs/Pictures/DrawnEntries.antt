-- A row of the picture that is drawn entry by entry.
use Rattle.std.proofs.Common.{◌≡◌, ◌∙◌, refl, sym, ap, subst, ℕ, ◌+◌, ◌-◌, ◌*◌, ◌/◌, ◌^◌, ◌<◌, Bool, true, false, cond, eqb, All, List, [], ◌∷◌, length, map, get_or, Option, Some, None, arith}
use Rattle.std.specs.Prelude.{slice_range, unwrap_or}
use Rattle.std.specs.List.{range_with_len}
use Rattle.std.specs.Option.{option_or}
use Rattle.std.proofs.lemmas.List.{ext_get_or, get_or-map, length-map}
use Rattle.std.proofs.lemmas.List.Edits.{get_or-between}
use Rattle.std.proofs.lemmas.List.FromFn.{get_or-range_with_len, length-range_with_len, length-map-range_with_len, get_or-map-range_with_len}
use Rattle.std.proofs.lemmas.Nat.{mod_below}
use Rattle.sub_base.specs.Colour.{clear}
use Rattle.sub_base.specs.Depth.{code_count}
use Rattle.sub_base.specs.Lists.{last_given}
use Rattle.sub_base.specs.declared.colour.Colour.{Colour}
use Rattle.sub_base.specs.declared.depth.Depth.{Depth}
use Rattle.sub_base.specs.declared.depth.Depth.TheVariants.{Two, Four, Eight}
use Rattle.stream_syntax.specs.declared.display.Window.{Window}
use Rattle.stream_syntax.specs.declared.page.PageEntry.{PageEntry}
use Rattle.stream_syntax.specs.declared.region.RegionHead.{RegionHead}
use Rattle.decoder_model.specs.Shown.{window_of, is_in_window}
use Rattle.pixel_store.specs.Codes.{code_in as code_in_byte}
use Rattle.pixel_store.specs.Regions.{StoredRegion, Regions, region_at, code_of as code_in_region}
use Rattle.page_core.specs.Coloured.{colour_of}
use Rattle.page_core.specs.Composition.{Composition, KeptRegion, region_in}
use Rattle.page_core.specs.Memory.{Memory, HasSidesOf, IsWholeMemory, ink_place, ink_in}
use Rattle.page_core.specs.Private.Painted.{HasRegion}
use Rattle.page_core.specs.Rows.{colour_through, colour_by_entry, colour_at, row_in, seen_in, IsDrawnOver, colour_by_region, AreColoursOf, IsDrawing, IsKeptAs, window_at}
use Rattle.page_core.specs.Private.Known.{IsNodeOf}
use Rattle.page_core.specs.declared.rows.RowPlace.{RowPlace}
use Rattle.page_core.proofs.Pictures.Finds.{found_all}
use Rattle.page_core.specs.declared.node.RegionNode.{RegionNode}
use Rattle.sub_base.specs.Picture.{is_inside}

-- ---- before any entry, after one more, after all

pub drawing_begins : (memory : Memory) (y : ℕ) (row : List Colour)
    → ((x : ℕ) → x < length row → colour_of row x ≡ clear)
    → IsDrawing memory y memory.composition.entries row
unfolding colour_at
drawing_begins memory y row all x inside =
    by (is_in_window (window_of memory.display) x y)
    ∙ ap (unwrap_or
    (seen_in (window_of memory.display) x y
    (last_given (colour_by_entry memory (window_of memory.display) x y) memory.composition.entries)))
    (sym (all x inside))
  where
    by : (seen : Bool)
        → cond seen
        (unwrap_or (last_given (colour_by_entry memory (window_of memory.display) x y) memory.composition.entries)
        clear) clear
        ≡ unwrap_or
        (cond seen (last_given (colour_by_entry memory (window_of memory.display) x y) memory.composition.entries)
        None) clear
    by true = refl
    by false = refl

-- what is drawn later lies over what is drawn before
over : (seen : Bool) (later here : Option Colour) (colour : Colour)
    → unwrap_or (cond seen (option_or later here) None) colour
    ≡ unwrap_or (cond seen later None) (unwrap_or (cond seen here None) colour)
over true None here colour = refl
over true (Some found) here colour = refl
over false later here colour = refl

pub drawing_goes_on : (memory : Memory) (y : ℕ) (entry : PageEntry) (rest : List PageEntry) (old new : List Colour)
    → IsDrawing memory y (entry ∷ rest) old → length new ≡ length old
    → IsDrawnOver (window_of memory.display) y (λ x. colour_by_entry memory (window_of memory.display) x y entry) old
    new → IsDrawing memory y rest new
drawing_goes_on memory y entry rest old new drawing size drawn x inside =
    let within : x < length old = omega arith in
    drawing x within
    ∙ over (is_in_window (window_of memory.display) x y)
    (last_given (colour_by_entry memory (window_of memory.display) x y) rest)
    (colour_by_entry memory (window_of memory.display) x y entry) (colour_of old x)
    ∙ ap (unwrap_or
    (seen_in (window_of memory.display) x y
    (last_given (colour_by_entry memory (window_of memory.display) x y) rest))) (sym (drawn x within))

nothing_seen : (seen : Bool) (colour : Colour) → unwrap_or (cond seen None None) colour ≡ colour
nothing_seen true colour = refl
nothing_seen false colour = refl

pub drawing_ends : (memory : Memory) (y : ℕ) (row : List Colour) → length row ≡ memory.display.width
    → IsDrawing memory y [] row → row ≡ row_in memory y
unfolding row_in
drawing_ends memory y row size drawing =
    ext_get_or clear row (row_in memory y)
    (size ∙ sym (length-map-range_with_len (λ x. colour_at memory x y) 0 memory.display.width))
    (λ x inside.
    sym (drawing x inside ∙ nothing_seen (is_in_window (window_of memory.display) x y) (colour_of row x))
    ∙ sym (get_or-map-range_with_len (λ x. colour_at memory x y) 0 memory.display.width x x clear (omega arith)
    (omega arith)))

-- ---- an entry

-- an entry whose region is not there draws nothing
pub no_region : (memory : Memory) (window : Window) (y : ℕ) (entry : PageEntry) (row : List Colour)
    → region_in memory.composition entry.region ≡ None
    → IsDrawnOver window y (λ x. colour_by_entry memory window x y entry) row row
no_region memory window y entry row none x inside =
    sym (ap (λ kept. unwrap_or
    (seen_in window x y (colour_through memory (window.left + entry.x) (window.top + entry.y) x y kept))
    (colour_of row x)) none
    ∙ nothing_seen (is_in_window window x y) (colour_of row x))

-- each code of a region is one of its depth
digit_below : (depth : Depth) (j byte : ℕ) → code_in_byte depth j byte < code_count depth
digit_below Two j byte = mod_below (byte / 2 ^ (8 - 2 * (j + 1))) 4 (omega arith)
digit_below Four j byte = mod_below (byte / 2 ^ (8 - 4 * (j + 1))) 16 (omega arith)
digit_below Eight j byte = mod_below (byte / 2 ^ (8 - 8 * (j + 1))) 256 (omega arith)

pub code_below : (region : StoredRegion) (x y : ℕ) → code_in_region region x y < code_count region.depth
code_below region x y = digit_below region.depth _ _

-- an entry whose region is there draws the region
pub region_drawn : (memory : Memory) (window : Window) (y : ℕ) (entry : PageEntry) (kept : KeptRegion)
    (colours : List Colour) (old new : List Colour)
    → region_in memory.composition entry.region ≡ Some kept
    → HasSidesOf kept.head (region_at memory.store kept.slot)
    → AreColoursOf memory.inks kept.head.clut kept.head.depth colours
    → IsDrawnOver window y
    (λ x. colour_by_region kept.head (region_at memory.store kept.slot) colours (window.left + entry.x)
    (window.top + entry.y) x y) old new
    → IsDrawnOver window y (λ x. colour_by_entry memory window x y entry) old new
region_drawn memory window y entry kept colours old new found sides are drawn x inside =
    drawn x inside
    ∙ ap (λ colour. unwrap_or
    (seen_in window x y
    (cond (is_inside (window.left + entry.x) (window.top + entry.y) kept.head.width kept.head.height x y)
    (Some colour) None)) (colour_of old x)) same
    ∙ ap (λ region. unwrap_or
    (seen_in window x y (colour_through memory (window.left + entry.x) (window.top + entry.y) x y region))
    (colour_of old x)) (sym found)
  where
    small : code_in_region (region_at memory.store kept.slot) (x - (window.left + entry.x)) (y - (window.top + entry.y))
        < code_count kept.head.depth
    small =
        subst (λ (depth : Depth). code_in_region (region_at memory.store kept.slot) (x - (window.left + entry.x))
        (y - (window.top + entry.y)) < code_count depth) sides.depth
        (code_below (region_at memory.store kept.slot) (x - (window.left + entry.x)) (y - (window.top + entry.y)))

    same : colour_of colours
        (code_in_region (region_at memory.store kept.slot) (x - (window.left + entry.x)) (y - (window.top + entry.y)))
        ≡ ink_in memory.inks kept.head.clut kept.head.depth
        (code_in_region (region_at memory.store kept.slot) (x - (window.left + entry.x))
        (y - (window.top + entry.y)))
    same =
        are (code_in_region (region_at memory.store kept.slot) (x - (window.left + entry.x))
        (y - (window.top + entry.y))) small

-- ---- the table of a CLUT

-- a part of all colours is the table of a CLUT
pub table_of : (inks colours : List Colour) (clut : ℕ) (depth : Depth)
    → colours ≡ slice_range inks (ink_place clut depth 0) (ink_place clut depth 0 + code_count depth)
    → AreColoursOf inks clut depth colours
table_of inks colours clut depth is number small =
    ap (λ (table : List Colour). colour_of table number) is
    ∙ get_or-between inks (ink_place clut depth 0) (ink_place clut depth 0 + code_count depth) number clear
    (omega arith)
    ∙ ap (colour_of inks) (omega arith)

-- the region of an entry is drawn, in the words of a memory that has its pixels and colours
pub node_drawn : (memory : Memory) (window : Window) (y : ℕ) (entry : PageEntry) (kept : KeptRegion)
    (region : RegionNode) (composition : Composition) (store : Regions) (inks colours old new : List Colour)
    → IsKeptAs memory composition store inks → region_in memory.composition entry.region ≡ Some kept
    → IsNodeOf kept region → HasRegion region.head region.slot store
    → AreColoursOf inks region.head.clut region.head.depth colours
    → IsDrawnOver window y
    (λ x. colour_by_region region.head (region_at store region.slot) colours (window.left + entry.x)
    (window.top + entry.y) x y) old new
    → IsDrawnOver window y (λ x. colour_by_entry memory window x y entry) old new
node_drawn memory window y entry kept region composition store inks colours old new has found node is_region are drawn =
    region_drawn memory window y entry kept colours old new found
    (subst (λ (head : RegionHead). HasSidesOf head (region_at memory.store kept.slot)) node.head
    (subst (λ (r : StoredRegion). HasSidesOf region.head r) (λ i. region_at (sym has.pixels i) (node.slot i))
    is_region.sides))
    (subst (λ (head : RegionHead). AreColoursOf memory.inks head.clut head.depth colours) node.head
    (subst (λ (all : List Colour). AreColoursOf all region.head.clut region.head.depth colours) (sym has.colours)
    are))
    (subst (λ (head : RegionHead). IsDrawnOver window y
    (λ x. colour_by_region head (region_at memory.store kept.slot) colours (window.left + entry.x)
    (window.top + entry.y) x y) old new) node.head
    (subst (λ (r : StoredRegion). IsDrawnOver window y
    (λ x. colour_by_region region.head r colours (window.left + entry.x) (window.top + entry.y) x y) old new)
    (λ i. region_at (sym has.pixels i) (node.slot i)) drawn))

-- ---- a region that is found

-- its slot has its sides and depth
pub found_placed : (composition : Composition) (id : ℕ) (kept : KeptRegion) (region : RegionNode) (store : Regions)
    → All (λ (kept : KeptRegion). HasRegion kept.head kept.slot store) composition.regions
    → region_in composition id ≡ Some kept → IsNodeOf kept region → HasRegion region.head region.slot store
found_placed composition id kept region store all found node =
    let placed =
    found_all (λ (kept : KeptRegion). HasRegion kept.head kept.slot store)
    (λ (kept : KeptRegion). eqb kept.head.region id) composition.regions kept all found in
    subst (λ (head : RegionHead). HasRegion head region.slot store) (sym node.head)
    (subst (λ (slot : ℕ). HasRegion kept.head slot store) (sym node.slot) placed)

-- ---- the rows of every memory with these parts

-- a row on its way, in the words of every memory with these parts
pub record IsOnWay (composition : Composition) (store : Regions) (inks : List Colour) (place : RowPlace)
    (rest : List PageEntry) (row : List Colour) : Type 0 where
  pub drawing : (memory : Memory) → IsKeptAs memory composition store inks
      → window_of memory.display ≡ window_at place → IsDrawing memory place.y rest row

pub way_begins : (composition : Composition) (store : Regions) (inks : List Colour) (place : RowPlace)
    (entries : List PageEntry) (row : List Colour) → ((x : ℕ) → x < length row → colour_of row x ≡ clear)
    → entries ≡ composition.entries → IsOnWay composition store inks place entries row
way_begins composition store inks place entries row all is = record {
  drawing =
      λ memory has window. subst (λ (rest : List PageEntry). IsDrawing memory place.y rest row)
      (ap (λ (c : Composition). c.entries) has.nodes ∙ sym is) (drawing_begins memory place.y row all);
}

pub way_goes_on : (composition : Composition) (store : Regions) (inks : List Colour) (place : RowPlace)
    (left : List PageEntry) (entry : PageEntry) (rest : List PageEntry) (old new : List Colour)
    → left ≡ entry ∷ rest → length new ≡ length old
    → ((memory : Memory) → IsKeptAs memory composition store inks
    → IsDrawnOver (window_at place) place.y (λ x. colour_by_entry memory (window_at place) x place.y entry) old
    new)
    → IsOnWay composition store inks place left old → IsOnWay composition store inks place rest new
way_goes_on composition store inks place left entry rest old new is size drawn way = record {
  drawing = λ memory has window.
      drawing_goes_on memory place.y entry rest old new
      (subst (λ (entries : List PageEntry). IsDrawing memory place.y entries old) is
      (way.drawing memory has window)) size
      (subst (λ (w : Window). IsDrawnOver w place.y (λ x. colour_by_entry memory w x place.y entry) old new)
      (sym window) (drawn memory has));
}

pub way_ends : (composition : Composition) (store : Regions) (inks : List Colour) (place : RowPlace)
    (left : List PageEntry) (row : List Colour) → left ≡ [] → IsOnWay composition store inks place left row
    → (memory : Memory) → IsKeptAs memory composition store inks → window_of memory.display ≡ window_at place
    → length row ≡ memory.display.width → row ≡ row_in memory place.y
way_ends composition store inks place left row is way memory has window size =
    drawing_ends memory place.y row size
    (subst (λ (rest : List PageEntry). IsDrawing memory place.y rest row) is (way.drawing memory has window))

-- ---- a whole memory

-- each region that is kept has its slot, with its sides and depth
pub placed_in_order : (regions : List KeptRegion) (store : Regions)
    → map (λ (kept : KeptRegion). kept.slot) regions ≡ range_with_len 0 (length store.regions)
    → All (λ (kept : KeptRegion). HasSidesOf kept.head (region_at store kept.slot)) regions
    → All (λ (kept : KeptRegion). HasRegion kept.head kept.slot store) regions
placed_in_order regions store slots sides = λ k d within.
    let slot_of : KeptRegion → ℕ = λ kept. kept.slot in
    let count : length regions ≡ length store.regions =
    sym (length-map regions slot_of) ∙ ap length slots ∙ length-range_with_len 0 (length store.regions) in
    let slot : (get_or regions k d).slot ≡ k =
    sym (get_or-map slot_of regions k d 0 within) ∙ ap (λ (all : List ℕ). get_or all k 0) slots
    ∙ get_or-range_with_len 0 (length store.regions) k 0 (omega (arith, count)) ∙ omega arith in
    record { placed = omega (arith, slot, count); sides = sides k d within }

pub regions_placed : (memory : Memory) → IsWholeMemory memory
    → All (λ (kept : KeptRegion). HasRegion kept.head kept.slot memory.store) memory.composition.regions
regions_placed memory whole = placed_in_order memory.composition.regions memory.store whole.slots whole.sides
