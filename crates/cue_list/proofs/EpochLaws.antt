-- The epochs that valid records list are valid, one record after another.
use Rattle.std.proofs.Common.{zero, suc, ◌≡◌, ◌≢◌, ◌∙◌, ◌⊎◌, inl, inr, refl, sym, ap, subst, ℕ, ◌+◌, ◌<◌, ◌≤◌, ◌==◌, Bool, true, false, nat_lt, nat_le, List, [], ◌∷◌, ◌++◌, length, get_or, find, cond, Option, Some, None, is_some, arith}
use Rattle.std.specs.Prelude.{All, AllPairs, slice_get}
use Rattle.std.specs.List.{list_any}
use Rattle.std.proofs.lemmas.Bool.Decides.{nat_tests}
use Rattle.std.proofs.lemmas.List.Quantifiers.{all_pairs_push}
use Rattle.sub_base.specs.Colour.{shown_of}
use Rattle.sub_base.specs.declared.colour.Colour.{Colour}
use Rattle.sub_base.specs.Depth.{bits_of, code_count}
use Rattle.cue_records.specs.declared.limits.TheConstants.{LONGEST_CUE, LONGEST_SCRIPT, MOST_REGIONS}
use Rattle.cue_records.specs.declared.row_values.ColourRow.{ColourRow}
use Rattle.cue_list.specs.declared.epoch.Cue.{Cue}
use Rattle.cue_list.specs.declared.epoch.Epoch.{Epoch}
use Rattle.cue_records.specs.declared.region.Region.{Region}
use Rattle.cue_records.specs.declared.row_values.PictureHead.{PictureHead}
use Rattle.cue_records.specs.CellFaults.{value_at, value_of, number_fault, depth_fault, region_cells, colour_cells}
use Rattle.cue_records.specs.Cells.{cell_at}
use Rattle.cue_list.specs.Past.{region_with}
use Rattle.cue_list.specs.RowFaults.{starts_before, lasts_past}
use Rattle.cue_records.specs.Regions.{lies_on, share_row}
use Rattle.cue_records.specs.RowValues.{region_in, colour_in}
use Rattle.cue_records.specs.Rows.{Row}
use Rattle.cue_list.specs.Sound.{IsTick, IsRegion, AreSeparate, IsColourRow, Follows}
use Rattle.cue_list.specs.Private.State.{with_region, with_colour, with_cue}
use Rattle.cue_records.proofs.TestLaws.{passed, both-false}
use Rattle.cue_list.proofs.FactLaws.{number-range}
use Rattle.cue_list.proofs.TicksApartLaws.{Member, Member-append, Member-at}

-- a cue, by the depths and sides of the pictures
pub record IsCueOf (origin start : ℕ) (regions : List Region) (heads : List PictureHead) (cue : Cue) : Type 0 where
  pub starts : IsTick origin cue.start
  pub ends : IsTick origin cue.end
  pub within : start ≤ cue.start
  pub lasts : cue.start < cue.end
  pub short : cue.end ≤ cue.start + LONGEST_CUE
  pub region : Region
  pub found : region_with cue.region regions ≡ Some region
  pub head : PictureHead
  pub drawn : slice_get heads cue.picture ≡ Some head
  pub across : cue.x + head.width ≤ region.width
  pub down : cue.y + head.height ≤ region.height
  pub shallow : bits_of head.depth ≤ bits_of region.depth

-- an epoch, by the depths and sides of the pictures
pub record IsEpochOf (origin width height : ℕ) (heads : List PictureHead) (epoch : Epoch) : Type 0 where
  pub starts : IsTick origin epoch.start
  pub many : length epoch.regions ≤ MOST_REGIONS
  pub regions : (region : Region) → Member region epoch.regions → IsRegion width height region
  pub apart : AllPairs AreSeparate epoch.regions
  pub colours : (row : ColourRow) → Member row epoch.colours → IsColourRow origin epoch.start row
  pub cues : (cue : Cue) → Member cue epoch.cues → IsCueOf origin epoch.start epoch.regions heads cue

-- ---- lists

pub any-none : {A : Type 0} (p : A → Bool) (xs : List A) (x : A) → list_any p xs ≡ false → Member x xs
    → p x ≡ false
any-none p [] x none m = absurd m
any-none p (y ∷ xs) x none (inl same) = ap p same ∙ (both-false (p y) (list_any p xs) none).0
any-none p (y ∷ xs) x none (inr m) = any-none p xs x (both-false (p y) (list_any p xs) none).1 m

found-first : {A : Type 0} (b : Bool) (x : A) (rest : Option A) → is_some (cond b (Some x) rest) ≡ false
    → (b ≡ false) × (is_some rest ≡ false)
found-first true x rest h = absurd (let never : true ≡ false = h in cc)
found-first false x rest h = (refl, h)

pub find-none : {A : Type 0} (p : A → Bool) (xs : List A) (x : A) → is_some (find p xs) ≡ false
    → Member x xs → p x ≡ false
find-none p [] x none m = absurd m
find-none p (y ∷ xs) x none (inl same) = ap p same ∙ (found-first (p y) y (find p xs) none).0
find-none p (y ∷ xs) x none (inr m) = find-none p xs x (found-first (p y) y (find p xs) none).1 m

last-of : {A : Type 0} (x y : A) → Member x (y ∷ []) → x ≡ y
last-of x y (inl same) = same
last-of x y (inr m) = absurd m

pub get-more : {A : Type 0} (xs ys : List A) (k : ℕ) (x : A) → slice_get xs k ≡ Some x
    → slice_get (xs ++ ys) k ≡ Some x
get-more [] ys k x h = absurd (let never : None ≡ Some x = h in cc)
get-more (z ∷ xs) ys zero x h = h
get-more (z ∷ xs) ys (suc k) x h = get-more xs ys k x h

pub get-last : {A : Type 0} (xs : List A) (x : A) → slice_get (xs ++ x ∷ []) (length xs) ≡ Some x
get-last [] x = refl
get-last (z ∷ xs) x = get-last xs x

-- ---- regions

different : (first second : Region) → (first.id == second.id) ≡ false → first.id ≢ second.id
different first second h = grind (arith, nat_tests)

below-or-above : (first second : Region) → share_row second first ≡ false
    → (first.y + first.height ≤ second.y) ⊎ (second.y + second.height ≤ first.y)
below-or-above first second h = grind (arith, nat_tests)

inside : (region : Region) (width height : ℕ) → lies_on width height region ≡ true
    → (region.x + region.width ≤ width) × (region.y + region.height ≤ height)
inside region width height h = (grind (arith, nat_tests), grind (arith, nat_tests))

-- the cells of a valid region
pub record HasSides (region : Region) : Type 0 where
  pub numbers : (region.id ≤ 255) × (region.clut ≤ 255)
  pub sides : (1 ≤ region.width) × (1 ≤ region.height)

pub region-cells : (cells : Row) → region_cells cells ≡ None → HasSides (region_in cells)
unfolding region_cells region_in
region-cells cells h =
    let id = passed (number_fault 0 255 (cell_at cells 1)) _ h in
    let x = passed (number_fault 0 1919 (cell_at cells 2)) _ id.1 in
    let y = passed (number_fault 0 1079 (cell_at cells 3)) _ x.1 in
    let wide = passed (number_fault 1 1920 (cell_at cells 4)) _ y.1 in
    let high = passed (number_fault 1 1080 (cell_at cells 5)) _ wide.1 in
    let deep = passed (depth_fault (cell_at cells 6)) _ high.1 in
    let clut = passed (number_fault 0 255 (cell_at cells 7)) [] deep.1 in
    record {
      numbers = ((number-range 0 255 (cell_at cells 1) id.0).1, (number-range 0 255 (cell_at cells 7) clut.0).1);
      sides = ((number-range 1 1920 (cell_at cells 4) wide.0).0, (number-range 1 1080 (cell_at cells 5) high.0).0);
    }

-- one more region
pub epoch-region : (origin width height : ℕ) (heads : List PictureHead) (epoch : Epoch) (region : Region)
    → IsEpochOf origin width height heads epoch → HasSides region
    → length epoch.regions < 64 → epoch.cues ≡ [] → is_some (region_with region.id epoch.regions) ≡ false
    → lies_on width height region ≡ true → list_any (share_row region) epoch.regions ≡ false
    → IsEpochOf origin width height heads (with_region region epoch)
epoch-region origin width height heads epoch region old sides few unused new lies alone =
    let lies_inside = inside region width height lies in
    let is_region : IsRegion width height region =
    record {
      numbers = sides.numbers;
      wide = sides.sides.0;
      high = sides.sides.1;
      across = lies_inside.0;
      down = lies_inside.1;
    } in
    record {
      starts = old.starts;
      many = omega (arith, length-last epoch.regions region);
      regions =
          λ other m. elim (Member-append other epoch.regions (region ∷ []) m) [
            | inl first ↦ old.regions other first
            | inr last ↦ subst (IsRegion width height)
                (sym (last-of other region last)) is_region
          ];
      apart = all_pairs_push AreSeparate epoch.regions region old.apart (λ k other within.
          let m = Member-at epoch.regions k other within in
          let first = get_or epoch.regions k other in
          record {
            ids = different first region (find-none (λ (r : Region). r.id == region.id) epoch.regions first new m);
            rows = below-or-above first region (any-none (share_row region) epoch.regions first alone m);
          });
      colours = old.colours;
      cues = λ cue m. absurd (subst (λ (cues : List Cue). Member cue cues) unused m);
    }
  where
    length-last : (xs : List Region) (x : Region) → length (xs ++ x ∷ []) ≡ length xs + 1
    length-last [] x = refl
    length-last (y ∷ xs) x = let more = length-last xs x in omega arith

-- ---- colours

shown-again : (colour : Colour) → shown_of (shown_of colour) ≡ shown_of colour
shown-again colour = by (colour.y == 0) refl
  where
    by : (b : Bool) → (colour.y == 0) ≡ b → shown_of (shown_of colour) ≡ shown_of colour
    by true e = rw e refl
    by false e = rw (e, e) refl

shown-bytes : (colour : Colour) → (colour.y ≤ 255) × (colour.cr ≤ 255) × (colour.cb ≤ 255)
    × (colour.t ≤ 255)
    → ((shown_of colour).y ≤ 255) × ((shown_of colour).cr ≤ 255) × ((shown_of colour).cb ≤ 255)
    × ((shown_of colour).t ≤ 255)
shown-bytes colour small = by (colour.y == 0) refl
  where
    by : (b : Bool) → (colour.y == 0) ≡ b → ((shown_of colour).y ≤ 255) × ((shown_of colour).cr ≤ 255)
        × ((shown_of colour).cb ≤ 255) × ((shown_of colour).t ≤ 255)
    by true e = rw e (omega arith, omega arith, omega arith, omega arith)
    by false e = rw e small

below : (a b : ℕ) → nat_lt a b ≡ true → a < b
below a b h = grind (arith, nat_tests)

pub not-below : (a b : ℕ) → nat_lt a b ≡ false → b ≤ a
not-below a b h = grind (arith, nat_tests)

pub tick-range : (origin : ℕ) (cell : List ℕ) → number_fault origin (origin + LONGEST_SCRIPT) cell ≡ None
    → IsTick origin (value_of cell)
tick-range origin cell h =
    let range = number-range origin (origin + LONGEST_SCRIPT) cell h in
    record { late = range.0; early = range.1 }

-- a valid colour
pub colour-row : (origin start number : ℕ) (cells : Row) → colour_cells origin cells ≡ None
    → nat_lt (colour_in number cells).entry (code_count (colour_in number cells).depth) ≡ true
    → start ≤ (colour_in number cells).tick
    → IsColourRow origin start (colour_in number cells)
unfolding colour_cells colour_in
colour-row origin start number cells h entry within =
    let tick = passed (number_fault origin (origin + LONGEST_SCRIPT) (cell_at cells 1)) _ h in
    let clut = passed (number_fault 0 255 (cell_at cells 2)) _ tick.1 in
    let deep = passed (depth_fault (cell_at cells 3)) _ clut.1 in
    let place = passed (number_fault 0 255 (cell_at cells 4)) _ deep.1 in
    let y = passed (number_fault 0 255 (cell_at cells 5)) _ place.1 in
    let cr = passed (number_fault 0 255 (cell_at cells 6)) _ y.1 in
    let cb = passed (number_fault 0 255 (cell_at cells 7)) _ cr.1 in
    let t = passed (number_fault 0 255 (cell_at cells 8)) [] cb.1 in
    let colour : Colour =
    record { y = value_at cells 5; cr = value_at cells 6; cb = value_at cells 7; t = value_at cells 8 } in
    record {
      tick = tick-range origin (cell_at cells 1) tick.0;
      within = within;
      clut = (number-range 0 255 (cell_at cells 2) clut.0).1;
      entry = below _ _ entry;
      shown = shown-again colour;
      bytes =
          shown-bytes colour (
            (number-range 0 255 (cell_at cells 5) y.0).1,
            (number-range 0 255 (cell_at cells 6) cr.0).1,
            (number-range 0
                255 (cell_at cells 7) cb.0).1,
            (number-range 0 255 (cell_at cells 8) t.0).1,
          );
    }

pub epoch-colour : (origin width height : ℕ) (heads : List PictureHead) (epoch : Epoch) (row : ColourRow)
    → IsEpochOf origin width height heads epoch → IsColourRow origin epoch.start row
    → IsEpochOf origin width height heads (with_colour row epoch)
epoch-colour origin width height heads epoch row old is = record {
  starts = old.starts;
  many = old.many;
  regions = old.regions;
  apart = old.apart;
  colours =
      λ other m. elim (Member-append other epoch.colours (row ∷ []) m) [
        | inl first ↦ old.colours other first
        | inr last ↦ subst (IsColourRow origin epoch.start)
            (sym (last-of other row last)) is
      ];
  cues = old.cues;
}

-- ---- cues

pub epoch-cue : (origin width height : ℕ) (heads : List PictureHead) (epoch : Epoch) (cue : Cue)
    → IsEpochOf origin width height heads epoch → IsCueOf origin epoch.start epoch.regions heads cue
    → IsEpochOf origin width height heads (with_cue (Some cue) epoch)
epoch-cue origin width height heads epoch cue old is = record {
  starts = old.starts;
  many = old.many;
  regions = old.regions;
  apart = old.apart;
  colours = old.colours;
  cues =
      λ other m. elim (Member-append other epoch.cues (cue ∷ []) m) [
        | inl first ↦ old.cues other first
        | inr last ↦ subst (IsCueOf origin epoch.start epoch.regions heads)
            (sym (last-of other cue last)) is
      ];
}

-- one more picture changes no cue
pub epoch-heads : (origin width height : ℕ) (heads more : List PictureHead) (epoch : Epoch)
    → IsEpochOf origin width height heads epoch → IsEpochOf origin width height (heads ++ more) epoch
epoch-heads origin width height heads more epoch old = record {
  starts = old.starts;
  many = old.many;
  regions = old.regions;
  apart = old.apart;
  colours = old.colours;
  cues = λ cue m. let is = old.cues cue m in record {
    starts = is.starts;
    ends = is.ends;
    within = is.within;
    lasts = is.lasts;
    short = is.short;
    region = is.region;
    found = is.found;
    head = is.head;
    drawn = get-more heads more cue.picture is.head is.drawn;
    across = is.across;
    down = is.down;
    shallow = is.shallow;
  };
}

-- an epoch without anything yet
pub epoch-new : (origin width height start number : ℕ) (heads : List PictureHead) → IsTick origin start
    → IsEpochOf origin width height heads
    (record { start = start; row = number; regions = []; colours = []; cues = [] })
epoch-new origin width height start number heads tick = record {
  starts = tick;
  many = omega arith;
  regions = λ region m. absurd m;
  apart = λ i j other before within. absurd (omega arith);
  colours = λ row m. absurd m;
  cues = λ cue m. absurd m;
}

-- ---- one epoch after another

all-any : {A : Type 0} (p : A → Bool) (xs : List A) (P : A → Type 0) → list_any p xs ≡ false
    → ((x : A) → p x ≡ false → P x) → All P xs
all-any p xs P none follows =
    λ k other within. follows (get_or xs k other)
    (any-none p xs (get_or xs k other) none (Member-at xs k other within))

not-from : (a b : ℕ) → nat_le a b ≡ false → b < a
not-from a b h = grind (arith, nat_tests)

-- the last epoch is over before a new one starts
pub follows-last : (start : ℕ) (epoch later : Epoch) → later.start ≡ start
    → starts_before start (Some epoch) ≡ true → lasts_past start (Some epoch) ≡ false → Follows epoch later
follows-last start epoch later same starts over =
    let parts =
    both-false (list_any (λ cue. nat_lt start cue.end) epoch.cues)
    (list_any (λ row. nat_le start row.tick) epoch.colours) over in
    record {
      starts = rw same (below epoch.start start starts);
      colours =
          rw same (all-any (λ (row : ColourRow). nat_le start row.tick) epoch.colours
          (λ (row : ColourRow). row.tick < start) parts.1 (λ (row : ColourRow) h. not-from start row.tick h));
      cues =
          rw same (all-any (λ (cue : Cue). nat_lt start cue.end) epoch.cues (λ (cue : Cue). cue.end ≤ start)
          parts.0 (λ (cue : Cue) h. not-below start cue.end h));
    }

-- what starts later follows too
pub follows-later : (first second third : Epoch) → Follows first second → second.start ≤ third.start
    → Follows first third
follows-later first second third old later = record {
  starts = let before = old.starts in omega arith;
  colours = λ k other within. let before = old.colours k other within in omega arith;
  cues = λ k other within. let before = old.cues k other within in omega arith;
}
