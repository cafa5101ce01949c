-- The colour of each place of a receiver's picture behind a run is the authored one.
use Rattle.std.proofs.Common.{◌≡◌, ◌≢◌, ◌∙◌, ◌⊎◌, inl, inr, ℕ, suc, ◌+◌, ◌-◌, ◌*◌, ◌==◌, ◌&&◌, ◌||◌, ◌<◌, ◌≤◌, Bool, true, false, not, cond, List, [], ◌∷◌, map, filter, reverse, get_or, Option, Some, None, unwrap_or, refl, sym, ap, subst, arith}
use Rattle.std.specs.Prelude.{All, find}
use Rattle.std.specs.List.{AllPairs, Contains, list_any}
use Rattle.std.specs.Option.{option_or}
use Rattle.std.proofs.lemmas.Bool.Decides.{nat_tests}
use Rattle.std.proofs.lemmas.List.{get_or_default}
use Rattle.std.proofs.lemmas.List.Elements.{All-head, All-tail, All-cons, All-filter, All-contains_itself}
use Rattle.std.proofs.lemmas.List.Folds.{list_any_at, list_any_none}
use Rattle.std.proofs.lemmas.List.Sorted.{Contains-permutation}
use Rattle.sub_base.specs.Colour.{clear}
use Rattle.sub_base.specs.Depth.{bits_of, code_count}
use Rattle.sub_base.specs.Lists.{last_given, has_some}
use Rattle.sub_base.specs.Picture.{Picture, IsPicture, code_at, is_inside}
use Rattle.sub_base.specs.declared.colour.Colour.{Colour}
use Rattle.sub_base.specs.declared.depth.Depth.{Depth}
use Rattle.sub_base.specs.declared.depth.Depth.TheVariants.{Two, Four, Eight}
use Rattle.stream_syntax.specs.declared.page.PageEntry.{PageEntry}
use Rattle.cue_list.specs.Authored.{is_live, live_cues, code_of, covers, shows, code_shown, authored_code, authored_colour, lies_in, colour_with, colour_in as authored_in, picture_at_place}
use Rattle.cue_list.specs.declared.epoch.Cue.{Cue}
use Rattle.cue_list.specs.declared.epoch.Epoch.{Epoch}
use Rattle.cue_records.specs.declared.region.Region.{Region}
use Rattle.cue_list.specs.declared.script.Script.{Script}
use Rattle.page_epoch.proofs.ListLaws.{All-none}
use Rattle.page_epoch.specs.Live.{cue_at, live_places}
use Rattle.page_epoch.specs.Sendable.{HasRegion}
use Rattle.page_epoch.specs.SentRegions.{AreShown}
use Rattle.set_coder.specs.SetSegments.{epoch_region, page_entry_of}
use Rattle.decoder_model.specs.Ink.{ink_of}
use Rattle.decoder_model.specs.Pixels.{pixel_of}
use Rattle.decoder_model.specs.Readings.{Content}
use Rattle.decoder_model.specs.Shown.{colour_in, colour_through}
use Rattle.decoder_model.specs.Taken.{taken_among, taken_of, last_region}
use Rattle.decoder_model.proofs.TakenSets.{taken_all}
use Rattle.shown_plan.proofs.Steps.Fair.{IsFairEpoch, IsFairCue}
use Rattle.shown_plan.proofs.Pictures.Holds.{ink_is, pixel_is, shown_live}
use Rattle.shown_plan.proofs.Steps.Keeps.{IsSent, KeepsRegion, Keeps}
use Rattle.shown_plan.proofs.Segments.Lists.{all_at, kept_one, kept_pass, mapped_there}
use Rattle.shown_plan.proofs.Pictures.Painted.{live_are}
use Rattle.shown_plan.proofs.Steps.SetFits.{last_sent}
use Rattle.shown_plan.proofs.Segments.SetView.{reversed_all}
use Rattle.shown_plan.proofs.Steps.SetPixels.{own_region, authored_itself}

-- ---- codes are of the region's depth

deeper_codes : (a b : Depth) (code : ℕ) → bits_of a ≤ bits_of b → code < code_count a → code < code_count b
deeper_codes Two Two code deep small = small
deeper_codes Two Four code deep small = omega (arith, small)
deeper_codes Two Eight code deep small = omega (arith, small)
deeper_codes Four Two code deep small = absurd (omega (arith, deep))
deeper_codes Four Four code deep small = small
deeper_codes Four Eight code deep small = omega (arith, small)
deeper_codes Eight Two code deep small = absurd (omega (arith, deep))
deeper_codes Eight Four code deep small = absurd (omega (arith, deep))
deeper_codes Eight Eight code deep small = small

some_code : (depth : Depth) → 0 < code_count depth
some_code Two = omega arith
some_code Four = omega arith
some_code Eight = omega arith

-- a pixel of a picture has a code of its depth
pixel_small : (picture : Picture) (column row : ℕ) → IsPicture picture → column < picture.width
    → row < picture.height → code_at picture column row < code_count picture.depth
pixel_small picture column row is narrow low =
    let full = is.full in
    is.each (row * picture.width + column) 0
    (omega (arith, full, product picture.width picture.height column row narrow low))
  where
    product : (width height column row : ℕ) → column < width → row < height
        → row * width + column < width * height
    product width height column row narrow low = grind (arith, narrow, low)

found_cue : (p : Cue → Bool) (cues : List Cue) (cue : Cue) → find p cues ≡ Some cue → Contains cues cue
    × (p cue ≡ true)
found_cue p [] cue is = absurd (cc)
found_cue p (first ∷ cues) cue is = by (p first) refl is (found_cue p cues cue)
  where
    by : (b : Bool) → p first ≡ b → cond b (Some first) (find p cues) ≡ Some cue
        → (find p cues ≡ Some cue → Contains cues cue × (p cue ≡ true)) → Contains (first ∷ cues) cue
        × (p cue ≡ true)
    by true e is again = (let same : first ≡ cue = cc in ((0, omega arith, same), ap p (sym same) ∙ e))
    by false e is again = (let rest = again is in ((suc rest.0.0, omega (arith, rest.0.1), rest.0.2), rest.1))

-- the authored code of a region is one of its depth
code_small : (width height : ℕ) (pictures : List Picture) (epoch : Epoch) (region : Region) (tick x y : ℕ)
    → IsFairEpoch width height pictures epoch → Contains epoch.regions region
    → authored_code pictures (live_cues epoch.cues region.id tick) x y < code_count region.depth
code_small width height pictures epoch region tick x y fair there =
    by (find (λ cue. shows pictures cue x y) (reverse (live_cues epoch.cues region.id tick))) refl
  where
    own : All (λ (cue : Cue). (cue.region ≡ region.id) × IsFairCue pictures epoch cue)
        (live_cues epoch.cues region.id tick)
    own k d within =
        (let mine : ((get_or (live_cues epoch.cues region.id tick) k d).region == region.id)
        && is_live tick (get_or (live_cues epoch.cues region.id tick) k d)
        ≡ true = kept_pass (λ (cue : Cue). (cue.region == region.id) && is_live tick cue) epoch.cues k d within
        in (
          first_of ((get_or (live_cues epoch.cues region.id tick) k d).region == region.id)
              (is_live tick (get_or (live_cues epoch.cues region.id tick) k d))
              (get_or (live_cues epoch.cues region.id tick) k d).region refl mine,
          All-filter (λ (cue : Cue). (cue.region == region.id) && is_live tick cue) (IsFairCue pictures epoch)
              epoch.cues fair.cues k d within,
        ))
      where
        first_of : (a b : Bool) (n : ℕ) → (n == region.id) ≡ a → (a && b) ≡ true → n ≡ region.id
        first_of true b n e both = grind (arith, nat_tests)
        first_of false b n e both = absurd (cc)

    inside : (cue : Cue) → covers pictures cue x y ≡ true
        → (x - cue.x < (picture_at_place pictures cue.picture).width)
        × (y - cue.y < (picture_at_place pictures cue.picture).height)
    inside cue e =
        (let left : cue.x ≤ x = grind (arith, nat_tests) in
        let right : x < cue.x + (picture_at_place pictures cue.picture).width = grind (arith, nat_tests) in
        let top : cue.y ≤ y = grind (arith, nat_tests) in
        let bottom : y < cue.y + (picture_at_place pictures cue.picture).height = grind (arith, nat_tests) in
        (omega (arith, left, right), omega (arith, top, bottom)))

    covered : (a b : Bool) → (a && b) ≡ true → a ≡ true
    covered true b e = refl
    covered false b e = absurd (cc)

    by : (found : Option Cue)
        → find (λ cue. shows pictures cue x y) (reverse (live_cues epoch.cues region.id tick)) ≡ found
        → code_shown pictures x y
        (find (λ cue. shows pictures cue x y) (reverse (live_cues epoch.cues region.id tick)))
        < code_count region.depth
    by None e =
        subst (λ (found : Option Cue). code_shown pictures x y found < code_count region.depth) (sym e)
        (some_code region.depth)
    by (Some cue) e =
        (let at = found_cue (λ cue. shows pictures cue x y) (reverse (live_cues epoch.cues region.id tick)) cue e in
        let mine =
        all_at (λ (cue : Cue). (cue.region ≡ region.id) × IsFairCue pictures epoch cue)
        (reverse (live_cues epoch.cues region.id tick)) cue
        (reversed_all (λ (cue : Cue). (cue.region ≡ region.id) × IsFairCue pictures epoch cue)
        (live_cues epoch.cues region.id tick) own) at.0 in
        let place =
        inside cue
        (covered (covers pictures cue x y) (not (cue.see_through && (code_of pictures cue x y == 1))) at.1) in
        let itself : epoch_region epoch cue.region ≡ region =
        ap (epoch_region epoch) mine.0 ∙ authored_itself epoch region fair.apart there in
        let shallow : bits_of (picture_at_place pictures cue.picture).depth ≤ bits_of region.depth =
        subst (λ (r : Region). bits_of (picture_at_place pictures cue.picture).depth ≤ bits_of r.depth) itself
        mine.1.fits.shallow in
        subst (λ (found : Option Cue). code_shown pictures x y found < code_count region.depth) (sym e)
        (deeper_codes (picture_at_place pictures cue.picture).depth region.depth (code_of pictures cue x y) shallow
        (pixel_small (picture_at_place pictures cue.picture) (x - cue.x) (y - cue.y) mine.1.drawn place.0 place.1)))

-- ---- regions that cover a place

-- the region of a place
region_at : (x y : ℕ) (regions : List Region) (region : Region) → find (lies_in x y) regions ≡ Some region
    → Contains regions region × (lies_in x y region ≡ true)
region_at x y [] region is = absurd (cc)
region_at x y (first ∷ regions) region is = by (lies_in x y first) refl is (region_at x y regions region)
  where
    by : (b : Bool) → lies_in x y first ≡ b → cond b (Some first) (find (lies_in x y) regions) ≡ Some region
        → (find (lies_in x y) regions ≡ Some region → Contains regions region × (lies_in x y region ≡ true))
        → Contains (first ∷ regions) region × (lies_in x y region ≡ true)
    by true e is again =
        (let same : first ≡ region = cc in ((0, omega arith, same), ap (lies_in x y) (sym same) ∙ e))
    by false e is again = (let rest = again is in ((suc rest.0.0, omega (arith, rest.0.1), rest.0.2), rest.1))

no_region_at : (x y : ℕ) (regions : List Region) → find (lies_in x y) regions ≡ None
    → All (λ region. lies_in x y region ≡ false) regions
no_region_at x y [] is = All-none _
no_region_at x y (first ∷ regions) is = by (lies_in x y first) refl is (no_region_at x y regions)
  where
    by : (b : Bool) → lies_in x y first ≡ b → cond b (Some first) (find (lies_in x y) regions) ≡ None
        → (find (lies_in x y) regions ≡ None → All (λ region. lies_in x y region ≡ false) regions)
        → All (λ region. lies_in x y region ≡ false) (first ∷ regions)
    by true e is again = absurd (cc)
    by false e is again = All-cons (λ region. lies_in x y region ≡ false) first regions e (again is)

-- regions of which one covers a place: another one does not
covers_alone : (x y : ℕ) (regions : List Region) (region other : Region)
    → AllPairs
    (λ (first second : Region). (x y : ℕ) → lies_in x y first ≡ true → lies_in x y second ≡ false) regions
    → Contains regions region → Contains regions other → region.id ≢ other.id → lies_in x y region ≡ true
    → lies_in x y other ≡ false
covers_alone x y regions region other rows there too differ inside = by (lies_in x y other) refl (grind arith)
  where
    place : get_or regions there.0 region ≡ region
    place = there.2

    by : (b : Bool) → lies_in x y other ≡ b → (there.0 ≡ too.0) ⊎ ((there.0 < too.0) ⊎ (too.0 < there.0))
        → lies_in x y other ≡ false
    by false e order = e
    by true e (inl same) =
        absurd (differ
        (ap (λ (r : Region). r.id)
        (sym there.2 ∙ get_or_default regions there.0 region other there.1
        ∙ ap (λ (k : ℕ). get_or regions k other) same ∙ too.2)))
    by true e (inr (inl before)) =
        absurd (let no = rows there.0 too.0 other before too.1 x y
        (ap (lies_in x y) (sym (get_or_default regions there.0 region other there.1) ∙ there.2) ∙ inside) in
        let yes : lies_in x y (get_or regions too.0 other) ≡ true = ap (lies_in x y) too.2
        ∙ e in let bad : true ≡ false = sym yes ∙ no in cc)
    by true e (inr (inr after)) =
        absurd (let no = rows too.0 there.0 region after there.1 x y
        (ap (lies_in x y) (sym (get_or_default regions too.0 other region too.1) ∙ too.2) ∙ e) in let yes : lies_in
        x y (get_or regions there.0 region) ≡ true = ap (lies_in x y) there.2
        ∙ inside in let bad : true ≡ false = sym yes ∙ no in cc)

-- the test of a receiver is that of the script
inside_is : (x y : ℕ) (region : Region)
    → is_inside (0 + region.x) (0 + region.y) region.width region.height x y ≡ lies_in x y region
inside_is x y region =
    λ i. is_inside (left i) (top i) region.width region.height x y
  where
    left : 0 + region.x ≡ region.x
    left = omega arith

    top : 0 + region.y ≡ region.y
    top = omega arith

-- ---- the colour of a place

-- a list of cues has some
abbrev has_some_cue : List Cue → Bool
has_some_cue [] = false
has_some_cue (cue ∷ cues) = true

-- the authored colour of a place in a region at a tick
abbrev colour_of_region : List Picture → Epoch → ℕ → ℕ → ℕ → Region → Colour
colour_of_region pictures epoch tick x y region =
    authored_colour epoch.colours region.clut region.depth
    (authored_code pictures (live_cues epoch.cues region.id tick) (x - region.x) (y - region.y)) tick

-- what a region with live cues gives a place that it covers
region_gives : (script : Script) (epoch : Epoch) (tick : ℕ) (earlier : List ℕ) (segments : List Content)
    (region : Region) (x y : ℕ) → IsFairEpoch script.width script.height script.pictures epoch
    → Keeps script epoch tick earlier segments → Contains epoch.regions region
    → has_some (live_places epoch.cues region.id tick) ≡ true
    → colour_through (taken_of segments) (0 + region.x) (0 + region.y) x y
    (last_region region.id (taken_among segments))
    ≡ cond (lies_in x y region) (Some (colour_of_region script.pictures epoch tick x y region)) None
region_gives script epoch tick earlier segments region x y fair kept there some =
    ap (colour_through (taken_of segments) (0 + region.x) (0 + region.y) x y) has.known
    ∙ (λ i. cond (is_inside (0 + region.x) (0 + region.y) (width i) (height i) x y)
    (Some (colour_in (taken_of segments) has.last (x - (0 + region.x)) (y - (0 + region.y)))) None)
    ∙ ap (λ b. cond b (Some (colour_in (taken_of segments) has.last (x - (0 + region.x)) (y - (0 + region.y)))) None)
    (inside_is x y region)
    ∙ ap (λ colour. cond (lies_in x y region) (Some colour) None) colour
  where
    has : KeepsRegion script.pictures epoch tick earlier (taken_among segments) region
    has =
        all_at (KeepsRegion script.pictures epoch tick earlier (taken_among segments)) epoch.regions region kept.regions
        there

    itself : epoch_region epoch has.last.head.region ≡ region
    itself =
        ap (epoch_region epoch)
        (last_sent epoch tick region.id (taken_among segments) has.last
        (taken_all (IsSent epoch tick) segments kept.each) has.known).1
        ∙ authored_itself epoch region fair.apart there

    width : has.last.head.width ≡ region.width
    width =
        (last_sent epoch tick region.id (taken_among segments) has.last
        (taken_all (IsSent epoch tick) segments kept.each) has.known).0.width ∙ ap (λ (r : Region). r.width) itself

    height : has.last.head.height ≡ region.height
    height =
        (last_sent epoch tick region.id (taken_among segments) has.last
        (taken_all (IsSent epoch tick) segments kept.each) has.known).0.height ∙ ap (λ (r : Region). r.height) itself

    depth : has.last.head.depth ≡ region.depth
    depth =
        (last_sent epoch tick region.id (taken_among segments) has.last
        (taken_all (IsSent epoch tick) segments kept.each) has.known).0.depth ∙ ap (λ (r : Region). r.depth) itself

    clut : has.last.head.clut ≡ region.clut
    clut =
        (last_sent epoch tick region.id (taken_among segments) has.last
        (taken_all (IsSent epoch tick) segments kept.each) has.known).0.clut ∙ ap (λ (r : Region). r.clut) itself

    number : has.last.head.region ≡ region.id
    number =
        (last_sent epoch tick region.id (taken_among segments) has.last
        (taken_all (IsSent epoch tick) segments kept.each) has.known).1

    pixel : pixel_of (taken_of segments) has.last.head.region (x - (0 + region.x)) (y - (0 + region.y))
        ≡ authored_code script.pictures (live_cues epoch.cues region.id tick) (x - region.x) (y - region.y)
    pixel =
        (let column : x - (0 + region.x) ≡ x - region.x = omega arith in
        let row : y - (0 + region.y) ≡ y - region.y = omega arith in
        (λ i. pixel_of (taken_of segments) (number i) (column i) (row i))
        ∙ pixel_is script epoch tick earlier (taken_among segments) region has some (x - region.x) (y - region.y))

    colour : colour_in (taken_of segments) has.last (x - (0 + region.x)) (y - (0 + region.y))
        ≡ colour_of_region script.pictures epoch tick x y region
    colour =
        (λ i. ink_of (taken_of segments) (clut i) (depth i) (pixel i))
        ∙ ink_is epoch tick earlier (taken_among segments) region.clut region.depth
        (authored_code script.pictures (live_cues epoch.cues region.id tick) (x - region.x) (y - region.y))
        (kept.cluts region.clut)
        (code_small script.width script.height script.pictures epoch region tick (x - region.x) (y - region.y) fair
        there)

-- entries of which one at most gives something
last_of_entries : (f : ℕ → Option Colour) (id : ℕ) (colour : Option Colour) (ids : List ℕ)
    → All (λ other. f other ≡ cond (other == id) colour None) ids
    → last_given f ids ≡ cond (list_any (λ other. other == id) ids) colour None
last_of_entries f id colour [] all = refl
last_of_entries f id colour (first ∷ ids) all =
    (λ i. option_or
    (last_of_entries f id colour ids (All-tail (λ other. f other ≡ cond (other == id) colour None) first ids all)
    i) (All-head (λ other. f other ≡ cond (other == id) colour None) first ids all i))
    ∙ by (first == id) (list_any (λ other. other == id) ids) colour
  where
    by : (a b : Bool) (v : Option Colour) → option_or (cond b v None) (cond a v None) ≡ cond (a || b) v None
    by true true None = refl
    by true true (Some c) = refl
    by true false v = refl
    by false true None = refl
    by false true (Some c) = refl
    by false false v = refl

pub last_mapped_entries : (g : PageEntry → Option Colour) (epoch : Epoch) (ids : List ℕ)
    → last_given g (map (page_entry_of epoch) ids) ≡ last_given (λ id. g (page_entry_of epoch id)) ids
last_mapped_entries g epoch [] = refl
last_mapped_entries g epoch (id ∷ ids) =
    ap (λ found. option_or found (g (page_entry_of epoch id))) (last_mapped_entries g epoch ids)

-- what an entry of the page gives a place
entry_gives : (script : Script) (epoch : Epoch) (tick : ℕ) (earlier : List ℕ) (segments : List Content)
    (shown : List ℕ) (id x y : ℕ) → IsFairEpoch script.width script.height script.pictures epoch
    → Keeps script epoch tick earlier segments
    → AreShown epoch.cues epoch.regions tick shown → HasRegion epoch id → Contains shown id
    → (region : Region) × Contains epoch.regions region × (region.id ≡ id)
    × (colour_through (taken_of segments) (0 + (page_entry_of epoch id).x) (0 + (page_entry_of epoch id).y) x y
    (last_region id (taken_among segments))
    ≡ cond (lies_in x y region) (Some (colour_of_region script.pictures epoch tick x y region)) None)
entry_gives script epoch tick earlier segments shown id x y fair kept are has listed =
    let own = own_region epoch.regions id has in
    let itself : epoch_region epoch id ≡ own.0 =
    ap (epoch_region epoch) (sym own.2) ∙ authored_itself epoch own.0 fair.apart own.1 in
    let some : has_some (live_places epoch.cues own.0.id tick) ≡ true =
    ap (λ (n : ℕ). has_some (live_places epoch.cues n tick)) own.2
    ∙ shown_live epoch tick shown id are listed in (
      own.0,
      own.1,
      own.2,
      (λ i. colour_through (taken_of segments) (0 + (itself i).x) (0 + (itself i).y) x y
          (last_region (sym own.2 i) (taken_among segments)))
          ∙ region_gives script epoch tick earlier segments own.0 x y fair kept own.1 some,
    )

-- a region with live cues is shown
live_shown : (epoch : Epoch) (tick : ℕ) (shown : List ℕ) (region : Region)
    → AreShown epoch.cues epoch.regions tick shown → Contains epoch.regions region
    → has_some (live_places epoch.cues region.id tick) ≡ true → Contains shown region.id
live_shown epoch tick shown region are there some =
    subst (λ (ids : List ℕ). Contains ids region.id) (sym are.is)
    (mapped_there (λ (region : Region). region.id)
    (filter (λ (region : Region). has_some (live_places epoch.cues region.id tick)) are.by_y) region
    (kept_one (λ (region : Region). has_some (live_places epoch.cues region.id tick)) are.by_y region
    (Contains-permutation epoch.regions are.by_y region are.ordered.same there) some))

-- the entries of the page give a place the authored colour, and none where it is clear
pub entries_give : (script : Script) (epoch : Epoch) (tick : ℕ) (earlier : List ℕ) (segments : List Content)
    (shown : List ℕ) (x y : ℕ) → IsFairEpoch script.width script.height script.pictures epoch
    → Keeps script epoch tick earlier segments
    → AreShown epoch.cues epoch.regions tick shown → All (HasRegion epoch) shown
    → unwrap_or
    (last_given
    (λ id. colour_through (taken_of segments) (0 + (page_entry_of epoch id).x) (0 + (page_entry_of epoch id).y) x y
    (last_region id (taken_among segments))) shown) clear
    ≡ authored_in script.pictures epoch tick x y (find (lies_in x y) epoch.regions)
entries_give script epoch tick earlier segments shown x y fair kept are has = by (find (lies_in x y) epoch.regions) refl
  where
    gives : ℕ → Option Colour
    gives id =
        colour_through (taken_of segments) (0 + (page_entry_of epoch id).x) (0 + (page_entry_of epoch id).y) x y
        (last_region id (taken_among segments))

    by_entry : (id : ℕ) → Contains shown id → (region : Region) × Contains epoch.regions region
        × (region.id ≡ id)
        × (gives id ≡ cond (lies_in x y region) (Some (colour_of_region script.pictures epoch tick x y region)) None)
    by_entry id listed =
        entry_gives script epoch tick earlier segments shown id x y fair kept are
        (all_at (HasRegion epoch) shown id has listed) listed

    none_given : (ids : List ℕ) → All (λ id. gives id ≡ None) ids → last_given gives ids ≡ None
    none_given [] none = refl
    none_given (id ∷ ids) none =
        (λ i. option_or (none_given ids (All-tail (λ id. gives id ≡ None) id ids none) i)
        (All-head (λ id. gives id ≡ None) id ids none i))

    live_given : (region : Region) (live : List Cue) → live_cues epoch.cues region.id tick ≡ live
        → has_some_cue live ≡ true
        → colour_of_region script.pictures epoch tick x y region
        ≡ colour_with script.pictures epoch.colours region tick (live_cues epoch.cues region.id tick) x y
    live_given region [] e some = absurd (cc)
    live_given region (cue ∷ live) e some = rw e refl

    by : (found : Option Region) → find (lies_in x y) epoch.regions ≡ found
        → unwrap_or (last_given gives shown) clear
        ≡ authored_in script.pictures epoch tick x y (find (lies_in x y) epoch.regions)
    by None e =
        (let nothing = none_given shown
        (λ k d within. (let entry = by_entry (get_or shown k d) (All-contains_itself shown k d within) in
        entry.3 ∙ ap (λ b. cond b (Some (colour_of_region script.pictures epoch tick x y entry.0)) None)
        (all_at (λ region. lies_in x y region ≡ false) epoch.regions entry.0 (no_region_at x y epoch.regions e)
        entry.1))) in
        ap (λ found. unwrap_or found clear) nothing ∙ sym (ap (authored_in script.pictures epoch tick x y) e))
    by (Some region) e = at_region (has_some (live_places epoch.cues region.id tick)) refl
      where
        here : Contains epoch.regions region × (lies_in x y region ≡ true)
        here = region_at x y epoch.regions region e

        one : (id : ℕ) → Contains shown id → (b : Bool) → (id == region.id) ≡ b
            → gives id ≡ cond b (Some (colour_of_region script.pictures epoch tick x y region)) None
        one id listed true same =
            (let entry = by_entry id listed in
            let number : entry.0.id ≡ region.id =
            (let e : id ≡ region.id = grind (arith, nat_tests) in entry.2 ∙ e) in
            let itself : entry.0 ≡ region =
            sym (authored_itself epoch entry.0 fair.apart entry.1) ∙ ap (epoch_region epoch) number
            ∙ authored_itself epoch region fair.apart here.0 in
            entry.3 ∙
            (λ i. cond (lies_in x y (itself i)) (Some (colour_of_region script.pictures epoch tick x y (itself i)))
            None) ∙ ap (λ b. cond b (Some (colour_of_region script.pictures epoch tick x y region)) None) here.1)
        one id listed false other =
            (let entry = by_entry id listed in
            let differ : region.id ≢ entry.0.id =
            (λ same. (let e : id ≡ region.id = sym entry.2 ∙ sym same in absurd (grind (arith, nat_tests)))) in
            entry.3 ∙ ap (λ b. cond b (Some (colour_of_region script.pictures epoch tick x y entry.0)) None)
            (covers_alone x y epoch.regions region entry.0 fair.rows here.0 entry.1 differ here.1))

        found_last : last_given gives shown
            ≡ cond (list_any (λ id. id == region.id) shown)
            (Some (colour_of_region script.pictures epoch tick x y region)) None
        found_last =
            last_of_entries gives region.id (Some (colour_of_region script.pictures epoch tick x y region)) shown
            (λ k d within. one (get_or shown k d) (All-contains_itself shown k d within)
            (get_or shown k d == region.id) refl)

        live_is : (b : Bool) → has_some (live_places epoch.cues region.id tick) ≡ b → (places : List ℕ)
            → live_places epoch.cues region.id tick ≡ places
            → has_some_cue (live_cues epoch.cues region.id tick) ≡ b
        live_is b some [] is =
            ap has_some_cue (live_are epoch.cues region.id tick ∙ ap (map (cue_at epoch.cues)) is)
            ∙ sym (ap has_some is) ∙ some
        live_is b some (place ∷ places) is =
            ap has_some_cue (live_are epoch.cues region.id tick ∙ ap (map (cue_at epoch.cues)) is)
            ∙ sym (ap has_some is) ∙ some

        at_region : (b : Bool) → has_some (live_places epoch.cues region.id tick) ≡ b
            → unwrap_or (last_given gives shown) clear
            ≡ authored_in script.pictures epoch tick x y (find (lies_in x y) epoch.regions)
        at_region true some =
            (let listed = live_shown epoch tick shown region are here.0 some in
            let any : list_any (λ id. id == region.id) shown ≡ true =
            list_any_at (λ id. id == region.id) shown listed.0 region.id listed.1
            (let same = listed.2 in grind (arith, nat_tests)) in
            ap (λ found. unwrap_or found clear)
            (found_last
            ∙ ap (λ b. cond b (Some (colour_of_region script.pictures epoch tick x y region)) None) any)
            ∙ live_given region (live_cues epoch.cues region.id tick) refl
            (live_is true some (live_places epoch.cues region.id tick) refl)
            ∙ sym (ap (authored_in script.pictures epoch tick x y) e))
        at_region false none =
            (let absent : list_any (λ id. id == region.id) shown
            ≡ false = list_any_none (λ id. id == region.id) shown
            (λ k d within. not_listed (get_or shown k d) (All-contains_itself shown k d within)
            (get_or shown k d == region.id) refl) in
            ap (λ found. unwrap_or found clear)
            (found_last
            ∙ ap (λ b. cond b (Some (colour_of_region script.pictures epoch tick x y region)) None) absent)
            ∙ dead (live_cues epoch.cues region.id tick)
            (live_is false none (live_places epoch.cues region.id tick) refl)
            ∙ sym (ap (authored_in script.pictures epoch tick x y) e))
          where
            not_listed : (id : ℕ) → Contains shown id → (b : Bool) → (id == region.id) ≡ b
                → (id == region.id) ≡ false
            not_listed id listed false e = e
            not_listed id listed true e =
                (let same : id ≡ region.id = grind (arith, nat_tests) in let no : false ≡ true = sym none
                ∙ ap (λ (n : ℕ). has_some (live_places epoch.cues n tick)) (sym same)
                ∙ shown_live epoch tick shown id are listed in absurd (cc))

            dead : (live : List Cue) → has_some_cue live ≡ false
                → clear ≡ colour_with script.pictures epoch.colours region tick live x y
            dead [] e = refl
            dead (cue ∷ live) e = absurd (cc)
