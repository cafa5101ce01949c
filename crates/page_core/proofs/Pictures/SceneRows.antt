-- The rows of the picture of a page memory are those of the scene that the memory stands for.
use Rattle.std.proofs.Common.{◌≡◌, ◌∙◌, refl, sym, ap, subst, ℕ, ◌+◌, ◌-◌, ◌*◌, ◌<◌, ◌≤◌, Bool, true, false, cond, eqb, List, [], ◌∷◌, length, map, All, Option, Some, None, arith}
use Rattle.std.specs.Prelude.{unwrap_or, option_map}
use Rattle.std.specs.List.{flat_map, list_any, range_with_len}
use Rattle.std.specs.Option.{option_or}
use Rattle.std.proofs.lemmas.Bool.{eqb-true}
use Rattle.std.proofs.lemmas.Bool.Decides.{nat_tests}
use Rattle.sub_base.specs.Colour.{clear}
use Rattle.sub_base.specs.Depth.{code_count, packed_length}
use Rattle.sub_base.specs.Lists.{last_given}
use Rattle.sub_base.specs.declared.depth.Depth.{Depth}
use Rattle.stream_syntax.specs.Segments.{Page, Region, Display}
use Rattle.stream_syntax.specs.declared.page.PageEntry.{PageEntry}
use Rattle.stream_syntax.specs.declared.region.RegionHead.{RegionHead}
use Rattle.decoder_model.specs.Contents.{region_named, region_of, where_passes}
use Rattle.decoder_model.specs.Faults.{display_in_force}
use Rattle.decoder_model.specs.Ink.{ink_of}
use Rattle.decoder_model.specs.PackedRows.{ArePacked, codes_of_line, listed_region, IsPackedLine}
use Rattle.decoder_model.specs.Pixels.{pixel_of}
use Rattle.decoder_model.specs.Readings.{Content}
use Rattle.decoder_model.specs.Shown.{Scene, window_of, is_in_window, row_of, plane_of, scene_in, colour_at as colour_at_scene}
use Rattle.decoder_model.specs.Shown as shown
use Rattle.decoder_model.specs.Taken.{Taken, segments_of, taken_of, taken_region, last_region}
use Rattle.pixel_store.specs.Codes.{codes_in_byte, packed_code}
use Rattle.pixel_store.specs.Regions.{region_at, IsPackedRow}
use Rattle.page_core.specs.Composition.{KeptRegion, region_in}
use Rattle.page_core.specs.Memory.{Memory, HasSidesOf, IsWholeMemory, HoldsSegments, head_of, code_in}
use Rattle.page_core.specs.Rows.{colour_in, colour_through, colour_by_entry, colour_at, row_in, picture_in, listed_in, IsLineLent}
use Rattle.page_core.proofs.Pictures.DrawnEntries.{code_below}
use Rattle.page_core.proofs.Pictures.Finds.{found_all}
use Rattle.page_core.proofs.Pictures.PackedLines.{packed_line}
use Rattle.sub_base.specs.Picture.{is_inside}

-- ---- what is found

-- what passes a test passes it
passes : {X : Type 0} (test : X → Bool) (found : Option X) (x : X) → where_passes test found ≡ Some x
    → test x ≡ true
passes test None x e = absurd (cc)
passes {X} test (Some other) x e = by (test other) refl e
  where
    by : (hit : Bool) → test other ≡ hit → cond hit (Some other) None ≡ Some x → test x ≡ true
    by true is e = let same : other ≡ x = cc in ap test (sym same) ∙ is
    by false is e = absurd (cc)

-- a region that is named by an id has it
pub named_region : (id : ℕ) (segments : List Content) (region : Region) → last_region id segments ≡ Some region
    → region.head.region ≡ id
named_region id [] region found = absurd (cc)
named_region id (segment ∷ segments) region found =
    by (λ found. named_region id segments region found) (region_named id segment) refl found
  where
    by : (last_region id segments ≡ Some region → region.head.region ≡ id) → (here : Option Region)
        → region_named id segment ≡ here → option_or here (last_region id segments) ≡ Some region
        → region.head.region ≡ id
    by rest None is found = rest found
    by rest (Some other) is found =
        let one : other ≡ region = cc in
        eqb-true region.head.region id
        (ap (λ (r : Region). eqb r.head.region id) (sym one)
        ∙ passes (λ (r : Region). eqb r.head.region id) (region_of segment) other is)

-- ---- a place

-- what a function gives is what another one gives of each item
pub same_last : {X Y : Type 0} (f g : X → Option Y) → ((x : X) → f x ≡ g x) → (xs : List X)
    → last_given f xs ≡ last_given g xs
same_last f g same [] = refl
same_last f g same (x ∷ xs) =
    ap (λ found. option_or found (f x)) (same_last f g same xs) ∙ ap (option_or (last_given g xs)) (same x)

module _ (segments : List Content) (memory : Memory) (holds : HoldsSegments segments memory)
    (whole : IsWholeMemory memory)
    (cluts : All (λ (kept : KeptRegion). kept.head.clut < 256) memory.composition.regions) where
  abbrev taken : Taken
  taken = taken_of segments

  -- the colour in a region that is there
  same_colour : (id x y : ℕ) (kept : KeptRegion) (region : Region) → region_in memory.composition id ≡ Some kept
      → taken_region id taken ≡ Some region → kept.head ≡ region.head
      → x < kept.head.width → y < kept.head.height
      → colour_in memory kept x y ≡ shown.colour_in taken region x y
  same_colour id x y kept region found found_too same narrow low =
      let sides : HasSidesOf kept.head (region_at memory.store kept.slot)
      = found_all (λ (kept : KeptRegion). HasSidesOf kept.head (region_at memory.store kept.slot))
      (λ (kept : KeptRegion). eqb kept.head.region id) memory.composition.regions kept whole.sides found in
      let clut : kept.head.clut < 256 =
      found_all (λ (kept : KeptRegion). kept.head.clut < 256) (λ (kept : KeptRegion). eqb kept.head.region id)
      memory.composition.regions kept cluts found in
      let small : code_in memory kept x y < code_count kept.head.depth
      = subst (λ (depth : Depth). code_in memory kept x y < code_count depth) sides.depth
      (code_below (region_at memory.store kept.slot) x y) in
      let named : region.head.region ≡ id = named_region id taken.segments region found_too in
      holds.inks kept.head.clut kept.head.depth (code_in memory kept x y) clut small
      ∙ ap (ink_of taken kept.head.clut kept.head.depth)
      (holds.pixels id x y kept found narrow low ∙ ap (λ n. pixel_of taken n x y) (sym named))
      ∙ ap (λ (head : RegionHead). ink_of taken head.clut head.depth (pixel_of taken region.head.region x y)) same

  some_head : (kept : KeptRegion) (region : Region)
      → option_map (λ (kept : KeptRegion). kept.head) (Some kept) ≡ option_map head_of (Some region)
      → kept.head ≡ region.head
  some_head kept region e = cc

  -- the colour through a region, where it is there
  same_through : (id left top x y : ℕ)
      → colour_through memory left top x y (region_in memory.composition id)
      ≡ shown.colour_through taken left top x y (taken_region id taken)
  same_through id left top x y = by (region_in memory.composition id) (taken_region id taken) refl refl (holds.heads id)
    where
      by : (kept : Option KeptRegion) (region : Option Region) → region_in memory.composition id ≡ kept
          → taken_region id taken ≡ region
          → option_map (λ (kept : KeptRegion). kept.head) kept ≡ option_map head_of region
          → colour_through memory left top x y kept ≡ shown.colour_through taken left top x y region
      by None None found found_too heads = refl
      by None (Some region) found found_too heads = absurd (cc)
      by (Some kept) None found found_too heads = absurd (cc)
      by (Some kept) (Some region) found found_too heads =
          inside (is_inside left top kept.head.width kept.head.height x y) refl
          ∙ ap (λ (head : RegionHead). cond (is_inside left top head.width head.height x y)
          (Some (shown.colour_in taken region (x - left) (y - top))) None) (some_head kept region heads)
        where
          inside : (is : Bool) → is_inside left top kept.head.width kept.head.height x y ≡ is
              → cond is (Some (colour_in memory kept (x - left) (y - top))) None
              ≡ cond is (Some (shown.colour_in taken region (x - left) (y - top))) None
          inside true is =
              ap Some (same_colour id (x - left) (y - top) kept region found found_too (some_head kept region heads)
              (grind (arith, nat_tests)) (grind (arith, nat_tests)))
          inside false is = refl

  -- the scene whose page has the memory's entries
  abbrev pub scene_of : Scene
  scene_of =
      record { display = display_in_force segments; entries = memory.composition.entries; taken = taken_of segments }

  -- each place has the scene's colour
  pub same_place : (x y : ℕ) → colour_at memory x y ≡ colour_at_scene scene_of x y
  unfolding colour_at colour_at_scene
  same_place x y =
      ap (λ (display : Display). cond (is_in_window (window_of display) x y)
      (unwrap_or (last_given (colour_by_entry memory (window_of display) x y) memory.composition.entries) clear)
      clear) holds.display
      ∙ ap (λ found. cond (is_in_window (window_of (display_in_force segments)) x y) (unwrap_or found clear) clear)
      (same_last (colour_by_entry memory (window_of (display_in_force segments)) x y)
      (shown.colour_by_entry (taken_of segments) (window_of (display_in_force segments)) x y)
      (λ entry. same_through entry.region ((window_of (display_in_force segments)).left + entry.x)
      ((window_of (display_in_force segments)).top + entry.y) x y) memory.composition.entries)

  -- each row is the scene's row
  pub same_row : (y : ℕ) → row_in memory y ≡ row_of scene_of y
  unfolding row_in
  same_row y =
      ap (λ (display : Display). map (λ x. colour_at memory x y) (range_with_len 0 display.width)) holds.display
      ∙ (λ i. map (λ x. same_place x y i) (range_with_len 0 (display_in_force segments).width))

  -- and the whole picture is the scene's picture
  pub same_picture : picture_in memory ≡ (plane_of scene_of).colours
  same_picture =
      ap (λ (display : Display). flat_map (row_in memory) (range_with_len 0 display.height)) holds.display
      ∙ (λ i. flat_map (λ y. same_row y i) (range_with_len 0 (display_in_force segments).height))

  -- ---- packed lines

  -- a line of a region has the scene's codes
  codes_of_region : (id line : ℕ) (kept : KeptRegion) (region : Region) (bytes : List ℕ)
      → region_in memory.composition id ≡ Some kept → taken_region id taken ≡ Some region
      → kept.head ≡ region.head
      → line < kept.head.height → IsPackedRow (region_at memory.store kept.slot) line bytes
      → ArePacked region.head.depth (codes_of_line taken region line) bytes
  codes_of_region id line kept region bytes found found_too same low row =
      let sides : HasSidesOf kept.head (region_at memory.store kept.slot)
      = found_all (λ (kept : KeptRegion). HasSidesOf kept.head (region_at memory.store kept.slot))
      (λ (kept : KeptRegion). eqb kept.head.region id) memory.composition.regions kept whole.sides found in
      let depth : (region_at memory.store kept.slot).depth ≡ region.head.depth =
      sides.depth ∙ ap (λ (head : RegionHead). head.depth) same in
      let width : (region_at memory.store kept.slot).width ≡ region.head.width =
      sides.width ∙ ap (λ (head : RegionHead). head.width) same in
      let named : region.head.region ≡ id = named_region id taken.segments region found_too in
      packed_line region.head.depth bytes region.head.width (λ x. pixel_of taken region.head.region x line)
      (row.whole ∙ (λ i. packed_length (depth i) (width i)))
      (λ x narrow.
      let inside : x < (region_at memory.store kept.slot).width = subst (λ (n : ℕ). x < n) (sym width) narrow in
      let inside_too : x < kept.head.width = subst (λ (n : ℕ). x < n) sides.width inside in
      ap (λ (depth : Depth). packed_code depth bytes x) (sym depth) ∙ row.codes x inside
      ∙ holds.pixels id x line kept found inside_too low ∙ ap (λ n. pixel_of taken n x line) (sym named))
      (λ x past inside.
      ap (λ (depth : Depth). packed_code depth bytes x) (sym depth)
      ∙ row.zeros x (subst (λ (n : ℕ). n ≤ x) (sym width) past)
      (subst (λ (depth : Depth). x < length bytes * codes_in_byte depth) (sym depth) inside))

  -- what is lent of a line is what the scene has there
  pub same_line : (id line : ℕ) (bytes : Option (List ℕ)) → IsLineLent memory (listed_in memory id) line bytes
      → IsPackedLine (taken_of segments) (listed_region scene_of id) line bytes
  same_line id line bytes lent =
      by (list_any (λ (entry : PageEntry). eqb entry.region id) memory.composition.entries) lent
    where
      region_lent : (kept : Option KeptRegion) (region : Option Region) (bytes : Option (List ℕ))
          → region_in memory.composition id ≡ kept → taken_region id taken ≡ region
          → option_map (λ (kept : KeptRegion). kept.head) kept ≡ option_map head_of region
          → IsLineLent memory kept line bytes → IsPackedLine (taken_of segments) region line bytes
      region_lent None None bytes found found_too heads lent = lent
      region_lent None (Some region) bytes found found_too heads lent = absurd (cc)
      region_lent (Some kept) None bytes found found_too heads lent = absurd (cc)
      region_lent (Some kept) (Some region) None found found_too heads lent =
          let same : kept.head.height ≡ region.head.height =
          ap (λ (head : RegionHead). head.height) (some_head kept region heads) in
          grind (arith, nat_tests)
      region_lent (Some kept) (Some region) (Some bytes) found found_too heads lent =
          let same : kept.head.height ≡ region.head.height =
          ap (λ (head : RegionHead). head.height) (some_head kept region heads) in
          let low : line < kept.head.height = lent.0 in (
            grind (arith, nat_tests),
            codes_of_region id line kept region bytes found found_too
                (some_head kept region heads) low lent.1,
          )

      by : (listed : Bool) → IsLineLent memory (cond listed (region_in memory.composition id) None) line bytes
          → IsPackedLine (taken_of segments) (cond listed (taken_region id taken) None) line bytes
      by true lent =
          region_lent (region_in memory.composition id) (taken_region id taken) bytes refl refl (holds.heads id) lent
      by false lent = lent

-- ---- the page of an epoch

-- the rows of the memory of an epoch, with a page's entries, are those of its scene
pub row_of_page : (epoch : List (List Content)) (page : Page) (memory : Memory)
    → HoldsSegments (segments_of epoch) memory
    → IsWholeMemory memory → All (λ (kept : KeptRegion). kept.head.clut < 256) memory.composition.regions
    → memory.composition.entries ≡ page.entries → (y : ℕ) → row_in memory y ≡ row_of (scene_in epoch page) y
row_of_page epoch page memory holds whole cluts same y =
    same_row (segments_of epoch) memory holds whole cluts y
    ∙ ap (λ entries. row_of
    (record {
      display = display_in_force (segments_of epoch);
      entries = entries;
      taken = taken_of
          (segments_of epoch);
    }) y) same

-- and so is the whole picture
pub picture_of_page : (epoch : List (List Content)) (page : Page) (memory : Memory)
    → HoldsSegments (segments_of epoch) memory → IsWholeMemory memory
    → All (λ (kept : KeptRegion). kept.head.clut < 256) memory.composition.regions
    → memory.composition.entries ≡ page.entries → picture_in memory ≡ (plane_of (scene_in epoch page)).colours
picture_of_page epoch page memory holds whole cluts same =
    same_picture (segments_of epoch) memory holds whole cluts
    ∙ ap (λ entries. (plane_of
    (record {
      display = display_in_force (segments_of epoch);
      entries = entries;
      taken = taken_of
          (segments_of epoch);
    })).colours) same

-- what is lent of a line is what its scene has there
pub line_of_page : (epoch : List (List Content)) (page : Page) (memory : Memory)
    → HoldsSegments (segments_of epoch) memory
    → IsWholeMemory memory → All (λ (kept : KeptRegion). kept.head.clut < 256) memory.composition.regions
    → memory.composition.entries ≡ page.entries → (id line : ℕ) (bytes : Option (List ℕ))
    → IsLineLent memory (listed_in memory id) line bytes
    → IsPackedLine (taken_of (segments_of epoch)) (listed_region (scene_in epoch page) id) line bytes
line_of_page epoch page memory holds whole cluts same id line bytes lent =
    subst (λ entries. IsPackedLine (taken_of (segments_of epoch))
    (listed_region
    (record {
      display = display_in_force (segments_of epoch);
      entries = entries;
      taken = taken_of
          (segments_of epoch);
    }) id) line bytes) same
    (same_line (segments_of epoch) memory holds whole cluts id line bytes lent)
