-- Laws of the picture of an epoch, region by region.
use Rattle.std.proofs.Common.{◌≡◌, ◌∙◌, refl, sym, ap, subst, ℕ, ◌+◌, ◌-◌, ◌<◌, ◌==◌, Bool, true, false, ◌&&◌, if◌then◌else◌, List, [], ◌∷◌, length, get_or, take, find, reverse, All, Option, Some, None, arith}
use Rattle.std.specs.Option.{option_or}
use Rattle.std.proofs.lemmas.Bool.Decides.{nat_tests}
use Rattle.std.proofs.lemmas.List.{take_more, length-reverse, get_or-reverse}
use Rattle.std.proofs.lemmas.List.Elements.{All-filter, filter_passes}
use Rattle.cue_list.proofs.ShownLaws.{Found-find, some_codes}
use Rattle.std.proofs.lemmas.List.Folds.{find-append}
use Rattle.sub_base.specs.Colour.{clear}
use Rattle.sub_base.specs.Depth.{code_count}
use Rattle.sub_base.specs.Picture.{Picture}
use Rattle.sub_base.specs.declared.colour.Colour.{Colour}
use Rattle.cue_list.specs.Authored.{authored_code, authored_colour, is_live, code_of, colour_in, colour_with, lies_in, live_cues, shows, code_shown}
use Rattle.cue_list.specs.Planes.{AreEntriesBy, AreCuesOf, FitsIn, ArePaintable, HasLive, PaintsRegion, ShowsRegions, colour_by_live, colour_of, plane_at}
use Rattle.cue_records.specs.declared.row_values.ColourRow.{ColourRow}
use Rattle.cue_list.specs.declared.epoch.Cue.{Cue}
use Rattle.cue_list.specs.declared.epoch.Epoch.{Epoch}
use Rattle.cue_records.specs.declared.region.Region.{Region}

-- what is found among the first of a list, and among one more
pub find_more : {X : Type 0} (p : X → Bool) (xs : List X) (k : ℕ) (d : X) → k < length xs →
    find p (take (k + 1) xs)
    ≡ option_or (find p (take k xs)) (if p (get_or xs k d) then Some (get_or xs k d) else None)
find_more p xs k d inside = ap (find p) (take_more xs k d inside) ∙ find-append p (take k xs) (get_or xs k d ∷ [])

-- over a clear place a region shows its colours
by_live-clear : (pictures : List Picture) (colours : List ColourRow) (region : Region) (tick : ℕ) (live : List Cue)
    (column row : ℕ) (beneath : Colour) → beneath ≡ clear →
    colour_by_live pictures colours region tick live column row beneath
    ≡ colour_with pictures colours region tick live column row
by_live-clear pictures colours region tick [] column row beneath is_clear = is_clear
by_live-clear pictures colours region tick (cue ∷ cues) column row beneath is_clear = refl

-- one more region
module _ (pictures : List Picture) (epoch : Epoch) (regions : List Region) (tick column row k : ℕ) (other : Region)
    (inside : k < length regions) (before after : Colour)
    (was : before ≡ colour_in pictures epoch tick column row (find (lies_in column row) (take k regions))) where
  pub scene_with : lies_in column row (get_or regions k other) ≡ true
      → find (lies_in column row) (take k regions) ≡ None →
      after ≡ colour_by_live pictures epoch.colours (get_or regions k other) tick
      (live_cues epoch.cues (get_or regions k other).id tick) column row before →
      after ≡ colour_in pictures epoch tick column row (find (lies_in column row) (take (k + 1) regions))
  scene_with lies none painted =
      let found : find (lies_in column row) (take (k + 1) regions) ≡ Some (get_or regions k other) =
      find_more (lies_in column row) regions k other inside ∙ rw (none, lies) refl in
      let beneath : before ≡ clear = was ∙ ap (colour_in pictures epoch tick column row) none in
      painted
      ∙ by_live-clear pictures epoch.colours (get_or regions k other) tick
      (live_cues epoch.cues (get_or regions k other).id tick) column row before beneath
      ∙ ap (colour_in pictures epoch tick column row) (sym found)

  pub scene_without : lies_in column row (get_or regions k other) ≡ false → after ≡ before →
      after ≡ colour_in pictures epoch tick column row (find (lies_in column row) (take (k + 1) regions))
  scene_without beyond same =
      let found : find (lies_in column row) (take (k + 1) regions) ≡ find (lies_in column row) (take k regions) =
      find_more (lies_in column row) regions k other inside
      ∙ rw beyond (or_none (find (lies_in column row) (take k regions))) in
      same ∙ was ∙ ap (colour_in pictures epoch tick column row) (sym found)
    where
      or_none : (found : Option Region) → option_or found None ≡ found
      or_none None = refl
      or_none (Some region) = refl

-- the code that a cue shows, where there is one, is below
shown_below : (pictures : List Picture) (x y n : ℕ) (found : Option Cue)
    → ((cue : Cue) → found ≡ Some cue → code_of pictures cue x y < n) → 0 < n
    → code_shown pictures x y found < n
shown_below pictures x y n None below some = some
shown_below pictures x y n (Some cue) below some = below cue refl

-- the code at a place of a region is one that the region has
code_at_most : (pictures : List Picture) (region : Region) (cues : List Cue) (tick x y : ℕ)
    → AreCuesOf pictures region cues →
    authored_code pictures (live_cues cues region.id tick) x y < code_count region.depth
code_at_most pictures region cues tick x y fit =
    let live = live_cues cues region.id tick in
    let is_live_here : Cue → Bool = λ cue. (cue.region == region.id) && is_live tick cue in
    let Fits : Cue → Type 0 = λ cue. cue.region ≡ region.id → FitsIn pictures region cue in
    let each : All Fits live = All-filter is_live_here Fits cues (λ i d below. fit i d below) in
    let passes : All (λ cue. is_live_here cue ≡ true) live = filter_passes is_live_here cues in
    shown_below pictures x y (code_count region.depth) (find (λ cue. shows pictures cue x y) (reverse live))
    (λ cue found.
    let there = Found-find (λ one. shows pictures one x y) (reverse live) cue found in
    let inside : there.place < length live = omega (arith, there.inside, length-reverse live) in
    let back : get_or live (length live - 1 - there.place) cue ≡ cue =
    sym (get_or-reverse live there.place cue inside) ∙ there.is cue in
    let at : length live - 1 - there.place < length live = omega arith in
    let named : cue.region ≡ region.id =
    named_by cue region.id tick
    (subst (λ (one : Cue). is_live_here one ≡ true) back (passes (length live - 1 - there.place) cue at)) in
    (subst Fits back (each (length live - 1 - there.place) cue at) named).codes (x - cue.x) (y - cue.y))
    (some_codes region.depth)
  where
    named_by : (cue : Cue) (id tick : ℕ) → (cue.region == id) && is_live tick cue ≡ true → cue.region ≡ id
    named_by cue id tick passes = grind (arith, nat_tests)

-- the colour of a code is that of the live cues
by_entries : (pictures : List Picture) (colours : List ColourRow) (region : Region) (tick : ℕ) (live : List Cue)
    (column row : ℕ) (beneath colour : Colour) → (live ≡ [] → ⊥) →
    colour ≡ authored_colour colours region.clut region.depth
    (authored_code pictures live (column - region.x) (row - region.y)) tick →
    colour ≡ colour_by_live pictures colours region tick live column row beneath
by_entries pictures colours region tick [] column row beneath colour some is_colour = absurd (some refl)
by_entries pictures colours region tick (cue ∷ cues) column row beneath colour some is_colour = is_colour

-- a region with live cues, painted
pub PaintsRegion-live : (pictures : List Picture) (entries : List Colour) (epoch : Epoch) (region : Region)
    (tick width height : ℕ) (old new : List Colour) →
    (live_cues epoch.cues region.id tick ≡ [] → ⊥) → AreCuesOf pictures region epoch.cues
    → AreEntriesBy epoch.colours region.clut region.depth tick entries →
    HasLive pictures entries region (live_cues epoch.cues region.id tick) width height old new
    → PaintsRegion pictures epoch region tick width height old new
PaintsRegion-live pictures entries epoch region tick width height old new some fit entries_are painted = record {
  inside = λ column row across down lies.
      painted.inside column row across down lies
      ∙ by_entries pictures epoch.colours region tick (live_cues epoch.cues region.id tick) column row
      (plane_at old width column row)
      (colour_of entries
      (authored_code pictures (live_cues epoch.cues region.id tick) (column - region.x) (row - region.y))) some
      (entries_are (authored_code pictures (live_cues epoch.cues region.id tick) (column - region.x) (row - region.y))
      (code_at_most pictures region epoch.cues tick (column - region.x) (row - region.y) fit));
  outside = painted.outside;
}

-- and one without
pub PaintsRegion-none : (pictures : List Picture) (epoch : Epoch) (region : Region) (tick width height : ℕ)
    (plane : List Colour) →
    live_cues epoch.cues region.id tick ≡ [] → PaintsRegion pictures epoch region tick width height plane plane
PaintsRegion-none pictures epoch region tick width height plane none = record {
  inside = λ column row across down lies. rw none refl;
  outside = λ column row across down beyond. refl;
}

-- a list of which it is false that it has items
pub empty_from : {X : Type 0} (xs : List X) → ((xs ≡ [] → ⊥) → ⊥) → xs ≡ []
empty_from [] never = refl
empty_from (x ∷ xs) never = absurd (never (λ none. let lengths = ap length none in omega arith))

-- the plane with one more region painted
pub ShowsRegions-more : (pictures : List Picture) (epoch : Epoch) (regions : List Region) (tick width height k : ℕ)
    (other : Region) (before after : List Colour) →
    ArePaintable width height pictures epoch.cues regions → k < length regions
    → ShowsRegions pictures epoch (take k regions) tick width height before →
    PaintsRegion pictures epoch (get_or regions k other) tick width height before after
    → ShowsRegions pictures epoch (take (k + 1) regions) tick width height after
ShowsRegions-more pictures epoch regions tick width height k other before after paintable inside shown painted column
    row across down =
    by_test (lies_in column row (get_or regions k other)) refl
  where
    by_test : (test : Bool) → lies_in column row (get_or regions k other) ≡ test →
        plane_at after width column row
        ≡ colour_in pictures epoch tick column row (find (lies_in column row) (take (k + 1) regions))
    by_test true lies =
        scene_with pictures epoch regions tick column row k other inside (plane_at before width column row)
        (plane_at after width column row) (shown column row across down)
        lies (paintable.alone column row k other inside lies) (painted.inside column row across down lies)
    by_test false beyond =
        scene_without pictures epoch regions tick column row k other inside (plane_at before width column row)
        (plane_at after width column row) (shown column row across down)
        beyond (painted.outside column row across down beyond)
