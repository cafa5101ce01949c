-- Laws of painting a region cue by cue.
use Rattle.std.proofs.Common.{◌≡◌, ◌∙◌, ◌⊎◌, inl, inr, refl, sym, ap, subst, ℕ, ◌+◌, ◌-◌, ◌<◌, ◌≤◌, nat_le, nat_lt, ◌==◌, not, Bool, true, false, ◌&&◌, if◌then◌else◌, List, [], ◌∷◌, ◌++◌, get_or, find, reverse, Option, Some, replicate, arith}
use Rattle.std.proofs.lemmas.Bool.Decides.{nat_tests}
use Rattle.std.proofs.lemmas.List.{reverse-append, get_or-replicate, get_or_past, length-replicate}
use Rattle.indexed_picture.proofs.PaintingLaws.{lt_or_le}
use Rattle.sub_base.specs.Picture.{Picture}
use Rattle.sub_base.specs.declared.colour.Colour.{Colour}
use Rattle.cue_list.specs.Authored.{authored_code, code_shown, code_of, covers, shows, lies_in, is_live, picture_at_place}
use Rattle.cue_list.specs.Planes.{plane_at, colour_of, colour_over, FillsRows, PaintsRows, FitsIn, HasLive}
use Rattle.cue_records.specs.declared.region.Region.{Region}
use Rattle.cue_list.specs.declared.epoch.Cue.{Cue}

-- the first of a list turned round that passes, with one more item behind
pub find_reverse-more : {X : Type 0} (p : X → Bool) (xs : List X) (x : X)
    → find p (reverse (xs ++ x ∷ [])) ≡ (if p x then Some x else find p (reverse xs))
find_reverse-more p xs x = ap (find p) (reverse-append xs (x ∷ []))

-- the code at a place with one more live cue: its own where it shows it there
pub authored_code-more : (pictures : List Picture) (live : List Cue) (cue : Cue) (x y : ℕ) →
    authored_code pictures (live ++ cue ∷ []) x y
    ≡ (if shows pictures cue x y then code_of pictures cue x y else authored_code pictures live x y)
authored_code-more pictures live cue x y =
    ap (code_shown pictures x y) (find_reverse-more (λ one. shows pictures one x y) live cue)
    ∙ either (shows pictures cue x y) (find (λ one. shows pictures one x y) (reverse live))
  where
    either : (test : Bool) (found : Option Cue)
        → code_shown pictures x y (if test then Some cue else found)
        ≡ (if test then code_of pictures cue x y else code_shown pictures x y found)
    either true found = refl
    either false found = refl

-- a place of the display that lies in a region, by its numbers
record Within (column row : ℕ) (region : Region) : Type 0 where
  left : region.x ≤ column
  right : column < region.x + region.width
  top : region.y ≤ row
  bottom : row < region.y + region.height

within : (column row : ℕ) (region : Region) → lies_in column row region ≡ true → Within column row region
within column row region lies = record {
  left = grind (arith, nat_tests);
  right = grind (arith, nat_tests);
  top = grind (arith, nat_tests);
  bottom = grind (arith, nat_tests);
}

-- zeros, at any place
pub get_or-zeros : (n k : ℕ) → ◌≡◌ {A = ℕ} (get_or (replicate n 0) k 0) 0
get_or-zeros n k =
    elim (lt_or_le k n) [
      | inl inside ↦ get_or-replicate n k 0 0 inside
      | inr past ↦ get_or_past (replicate {A = ℕ} n 0) k 0
          (omega (arith, length-replicate {A = ℕ} n 0))
    ]

-- a place that does not lie in a region lies beside it, above it or below it
beside_region : (column row : ℕ) (region : Region) → lies_in column row region ≡ false →
    (column < region.x) ⊎ (region.x + region.width ≤ column) ⊎ (row < region.y)
    ⊎ (region.y + region.height ≤ row)
beside_region column row region outside = grind (arith, nat_tests)

-- a region that was filled has no live cue yet
pub HasLive-none : (pictures : List Picture) (entries : List Colour) (region : Region) (width height : ℕ)
    (old new : List Colour) →
    FillsRows (colour_of entries 0) region width height region.height old new
    → HasLive pictures entries region [] width height old new
HasLive-none pictures entries region width height old new fills = record {
  inside = λ column row across down lies.
      let place = within column row region lies in
      let x : region.x + (column - region.x) ≡ column = omega (arith, place.left) in
      let y : region.y + (row - region.y) ≡ row = omega (arith, place.top) in
      let P : ℕ → ℕ → Type 0 = λ a b. plane_at new width a b ≡ colour_of entries 0 in
      subst (λ (b : ℕ). P column b) y (subst (λ (a : ℕ). P a (region.y + (row - region.y))) x
      (fills.covered (column - region.x) (row - region.y) (omega (arith, place.left, place.right))
      (omega (arith, place.top, place.bottom))));
  outside =
      λ column row across down beyond. fills.outside column row across down (beside_region column row region beyond);
}

-- a cue's picture covers a place, or the place lies beside it, above it or below it
covers_or_beside : (pictures : List Picture) (cue : Cue) (x y : ℕ) →
    ((covers pictures cue x y ≡ true) × (cue.x ≤ x) × (x < cue.x + (picture_at_place pictures cue.picture).width)
    × (cue.y ≤ y) × (y < cue.y + (picture_at_place pictures cue.picture).height))
    ⊎ ((covers pictures cue x y ≡ false)
    × ((x < cue.x) ⊎ (cue.x + (picture_at_place pictures cue.picture).width ≤ x) ⊎ (y < cue.y)
    ⊎ (cue.y + (picture_at_place pictures cue.picture).height ≤ y)))
covers_or_beside pictures cue x y =
    let p = picture_at_place pictures cue.picture in
    by_sides p.width p.height
  where
    by_sides : (w h : ℕ) →
        (((nat_le cue.x x && (nat_lt x (cue.x + w) && (nat_le cue.y y && nat_lt y (cue.y + h)))) ≡ true)
        × (cue.x ≤ x) × (x < cue.x + w) × (cue.y ≤ y) × (y < cue.y + h))
        ⊎ (((nat_le cue.x x && (nat_lt x (cue.x + w) && (nat_le cue.y y && nat_lt y (cue.y + h)))) ≡ false)
        × ((x < cue.x) ⊎ (cue.x + w ≤ x) ⊎ (y < cue.y) ⊎ (cue.y + h ≤ y)))
    by_sides w h =
        elim (lt_or_le x cue.x) [
          | inl left ↦ inr (grind (arith, nat_tests), inl left)
          | inr from_left ↦ elim (lt_or_le x (cue.x + w)) [
            | inr right ↦ inr (grind (arith, nat_tests), inr (inl right))
            | inl to_right ↦ elim (lt_or_le y cue.y) [
              | inl above ↦ inr (grind (arith, nat_tests), inr (inr (inl above)))
              | inr from_top ↦ elim (lt_or_le y (cue.y + h)) [
                | inr below ↦ inr (grind (arith, nat_tests), inr (inr (inr below)))
                | inl to_bottom ↦ inl (grind (arith, nat_tests), from_left, to_right, from_top, to_bottom)
              ]
            ]
          ]
        ]

turned : (test : Bool) (beneath above : Colour)
    → (if test then beneath else above) ≡ (if not test then above else beneath)
turned true beneath above = refl
turned false beneath above = refl

-- beside a picture of a region is beside it on the display
moved : (left top x y column row at_x at_y w h : ℕ) → left + x ≡ column → top + y ≡ row →
    (x < at_x) ⊎ (at_x + w ≤ x) ⊎ (y < at_y) ⊎ (at_y + h ≤ y) →
    (column < left + at_x) ⊎ (left + at_x + w ≤ column) ⊎ (row < top + at_y) ⊎ (top + at_y + h ≤ row)
moved left top x y column row at_x at_y w h is_column is_row where_it_lies = grind (arith, where_it_lies)

module _ (pictures : List Picture) (entries : List Colour) (region : Region) (live : List Cue) (width height : ℕ)
    (old plane new : List Colour) (cue : Cue)
    (fits : FitsIn pictures region cue) (before : HasLive pictures entries region live width height old plane)
    (paints : PaintsRows entries (picture_at_place pictures cue.picture) (region.x + cue.x) (region.y + cue.y)
    cue.see_through width height (picture_at_place pictures cue.picture).height plane new) where
  chosen : (test : Bool) (code other : ℕ) (beneath : Colour) → beneath ≡ colour_of entries other
      → (if test then colour_of entries code else beneath) ≡ colour_of entries (if test then code else other)
  chosen true code other beneath same = refl
  chosen false code other beneath same = same

  -- beside the region is beside the picture in it
  around : (w h column row : ℕ) → cue.x + w ≤ region.width → cue.y + h ≤ region.height →
      (column < region.x) ⊎ (region.x + region.width ≤ column) ⊎ (row < region.y)
      ⊎ (region.y + region.height ≤ row) →
      (column < region.x + cue.x) ⊎ (region.x + cue.x + w ≤ column) ⊎ (row < region.y + cue.y)
      ⊎ (region.y + cue.y + h ≤ row)
  around w h column row across down where_it_lies = grind (arith, where_it_lies)

  -- a place of the region after the cue
  then_inside : (column row : ℕ) → column < width → row < height → Within column row region →
      plane_at new width column row
      ≡ (if shows pictures cue (column - region.x) (row - region.y)
      then colour_of entries (code_of pictures cue (column - region.x) (row - region.y))
      else plane_at plane width column row)
  then_inside column row across down place =
      let x = column - region.x in
      let y = row - region.y in
      elim (covers_or_beside pictures cue x y) [
        | inl there ↦
            let at_column : region.x + cue.x + (x - cue.x) ≡ column = omega (arith, place.left, there.1) in
            let at_row : region.y + cue.y + (y - cue.y) ≡ row = omega (arith, place.top, there.3) in
            let P : ℕ → ℕ
            → Type 0 = λ a b. plane_at new width a b
            ≡ colour_over entries cue.see_through (code_of pictures cue x y) (plane_at plane width a b) in
            let painted : P column row =
            subst (λ (b : ℕ). P column b) at_row
            (subst (λ (a : ℕ). P a (region.y + cue.y + (y - cue.y))) at_column
            (paints.covered (x - cue.x) (y - cue.y) (omega (arith, there.1, there.2))
            (omega (arith, there.3, there.4)))) in
            painted ∙ rw there.0
            (turned (cue.see_through && (code_of pictures cue x y == 1)) (plane_at plane width column row)
            (colour_of entries (code_of pictures cue x y)))
        | inr beyond ↦
            let where_it_lies : (column < region.x + cue.x)
            ⊎ (region.x + cue.x + (picture_at_place pictures cue.picture).width ≤ column)
            ⊎ (row < region.y + cue.y)
            ⊎ (region.y + cue.y + (picture_at_place pictures cue.picture).height ≤ row) =
            moved region.x region.y x y column row cue.x cue.y (picture_at_place pictures cue.picture).width
            (picture_at_place pictures cue.picture).height (omega (arith, place.left)) (omega (arith, place.top))
            beyond.1 in
            paints.outside column row across down where_it_lies ∙ rw beyond.0 refl
      ]

  pub HasLive-more : HasLive pictures entries region (live ++ cue ∷ []) width height old new
  HasLive-more = record {
    inside = λ column row across down lies.
        let x = column - region.x in
        let y = row - region.y in
        then_inside column row across down (within column row region lies)
        ∙ chosen (shows pictures cue x y) (code_of pictures cue x y) (authored_code pictures live x y)
        (plane_at plane width column row) (before.inside column row across down lies)
        ∙ ap (colour_of entries) (sym (authored_code-more pictures live cue x y));
    outside = λ column row across down beyond.
        paints.outside column row across down
        (around (picture_at_place pictures cue.picture).width (picture_at_place pictures cue.picture).height column row
        fits.across fits.down (beside_region column row region beyond))
        ∙ before.outside column row across down beyond;
  }

-- a cue that is live in a region names it
pub live_names : (cue : Cue) (id tick : ℕ) → (cue.region == id) && is_live tick cue ≡ true → cue.region ≡ id
live_names cue id tick passes = grind (arith, nat_tests)
