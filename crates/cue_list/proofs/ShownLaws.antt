-- What follows for an epoch of a script whose values pass their tests.
use Rattle.std.proofs.Common.{◌≡◌, ◌∙◌, inl, inr, refl, sym, ap, subst, suc, ℕ, ◌+◌, ◌-◌, ◌*◌, ◌<◌, ◌≤◌, ◌==◌, nat_le, Bool, true, false, if◌then◌else◌, List, [], ◌∷◌, length, get_or, take, All, AllPairs, find, reverse, Option, Some, None, arith}
use Rattle.std.proofs.lemmas.Bool.Decides.{nat_tests}
use Rattle.std.proofs.lemmas.Grind.{not_there}
use Rattle.std.proofs.lemmas.List.{get_or_past, length-reverse, length-take, get_or-take, get_or-reverse}
use Rattle.std.proofs.lemmas.List.Elements.{All-get_or}
use Rattle.indexed_picture.proofs.PaintingLaws.{lt_or_le}
use Rattle.sub_base.specs.Depth.{bits_of, code_count}
use Rattle.sub_base.specs.Picture.{Picture, IsPicture, code_at, picture_of}
use Rattle.sub_base.specs.declared.depth.Depth.{Depth}
use Rattle.sub_base.specs.declared.depth.Depth.TheVariants.{Two, Four, Eight}
use Rattle.cue_list.specs.Authored.{epoch_at, lies_in, picture_at_place}
use Rattle.cue_list.specs.Sound.{IsSoundScript, IsEpoch, IsRegion, IsCue, AreSeparate, FitsRegion}
use Rattle.cue_list.specs.Planes.{FitsIn, AreCuesOf, ArePaintable}
use Rattle.cue_list.specs.declared.epoch.Cue.{Cue}
use Rattle.cue_list.specs.declared.epoch.Epoch.{Epoch}
use Rattle.cue_records.specs.declared.region.Region.{Region}

-- a place at which what is found stands
pub record Found {X : Type 0} (p : X → Bool) (xs : List X) (x : X) : Type 0 where
  pub place : ℕ
  pub inside : place < length xs
  pub is : (d : X) → get_or xs place d ≡ x
  pub passes : p x ≡ true

found_in : {X : Type 0} (p : X → Bool) (first x : X) (xs : List X) (test : Bool) → p first ≡ test
    → (if test then Some first else find p xs) ≡ Some x →
    (find p xs ≡ Some x → Found p xs x) → Found p (first ∷ xs) x
found_in p first x xs true passes found later =
    let same : first ≡ x = cc in
    record { place = 0; inside = omega arith; is = λ d. same; passes = ap p (sym same) ∙ passes }
found_in p first x xs false fails found later =
    let there = later found in
    record { place = suc there.place; inside = omega (arith, there.inside); is = there.is; passes = there.passes }

pub Found-find : {X : Type 0} (p : X → Bool) (xs : List X) (x : X) → find p xs ≡ Some x → Found p xs x
Found-find p [] x found = absurd cc
Found-find p (first ∷ xs) x found = found_in p first x xs (p first) refl found (Found-find p xs x)

-- what is not false is so
pub decide_le : (a b : ℕ) → ((a ≤ b → ⊥) → ⊥) → a ≤ b
decide_le a b not_not = elim (lt_or_le b a) [ inl above ↦ absurd (not_not (λ le. omega arith)) | inr le ↦ le ]

-- the regions of a valid epoch lie on the display
pub region_within : (origin width height : ℕ) (pictures : List Picture) (epoch : Epoch) (k : ℕ) (other : Region) →
    IsEpoch origin width height pictures epoch → k < length epoch.regions
    → IsRegion width height (get_or epoch.regions k other)
region_within origin width height pictures epoch k other right inside =
    All-get_or (IsRegion width height) epoch.regions k other inside right.regions.each

-- an epoch that is found is one of the script's, and valid
pub epoch_is_right : (origin width height refresh : ℕ) (epochs : List Epoch) (pictures : List Picture) (tick : ℕ)
    (epoch : Epoch) →
    IsSoundScript origin width height refresh epochs pictures → epoch_at epochs tick ≡ Some epoch
    → IsEpoch origin width height pictures epoch
epoch_is_right origin width height refresh epochs pictures tick epoch sound found =
    let there = Found-find (λ (one : Epoch). nat_le one.start tick) (reverse epochs) epoch found in
    let inside : there.place < length epochs = omega (arith, there.inside, length-reverse epochs) in
    let back : get_or (reverse epochs) there.place epoch ≡ get_or epochs (length epochs - 1 - there.place) epoch =
    get_or-reverse epochs there.place epoch inside in
    subst (IsEpoch origin width height pictures) (sym back ∙ there.is epoch)
    (All-get_or (IsEpoch origin width height pictures) epochs (length epochs - 1 - there.place) epoch (omega arith)
    sound.each)

-- a deeper region has at least as many codes
deeper : (a b : Depth) → bits_of a ≤ bits_of b → code_count a ≤ code_count b
deeper Two Two le = omega arith
deeper Two Four le = omega arith
deeper Two Eight le = omega arith
deeper Four Two le = absurd (omega arith)
deeper Four Four le = omega arith
deeper Four Eight le = omega arith
deeper Eight Two le = absurd (omega arith)
deeper Eight Four le = absurd (omega arith)
deeper Eight Eight le = omega arith

pub some_codes : (a : Depth) → 0 < code_count a
some_codes Two = omega arith
some_codes Four = omega arith
some_codes Eight = omega arith

-- each code of a picture is one of its depth
pub code_below : (picture : Picture) → IsPicture picture → (column row : ℕ)
    → code_at picture column row < code_count picture.depth
code_below picture right column row =
    let place = row * picture.width + column in
    elim (lt_or_le place (length picture.codes)) [
      | inl inside ↦ All-get_or (λ code. code < code_count picture.depth) picture.codes place 0 inside right.each
      | inr past ↦ rw (get_or_past picture.codes place 0 past) (some_codes picture.depth)
    ]

-- of regions that are apart, the one that is found by its number
region_named : (regions : List Region) (k : ℕ) (other found : Region) (name : ℕ) → AllPairs AreSeparate regions
    → k < length regions → name ≡ (get_or regions k other).id →
    find (λ (region : Region). region.id == name) regions ≡ Some found → found ≡ get_or regions k other
region_named regions k other found name apart inside names is_found =
    let there = Found-find (λ (region : Region). region.id == name) regions found is_found in
    let named : found.id ≡ name = same_number found.id name there.passes in
    elim (lt_or_le there.place k) [
      | inl before ↦ absurd
          ((apart there.place k other before inside).ids
          (ap (λ (r : Region). r.id) (there.is other) ∙ named ∙ names))
      | inr not_before ↦ elim (lt_or_le k there.place) [
        | inl behind ↦ absurd
            ((apart k there.place other behind there.inside).ids
            (sym names ∙ sym named ∙ ap (λ (r : Region). r.id) (sym (there.is other))))
        | inr not_behind ↦
            let same : there.place ≡ k = omega arith in
            sym (there.is other) ∙ ap (λ (n : ℕ). get_or regions n other) same
      ]
    ]
  where
    same_number : (a b : ℕ) → (a == b) ≡ true → a ≡ b
    same_number a b equal = grind (arith, nat_tests)

-- the cues of a valid epoch that name one of its regions fit in it
pub cues_fit : (origin width height : ℕ) (pictures : List Picture) (epoch : Epoch) (k : ℕ) (other : Region) →
    All IsPicture pictures → IsEpoch origin width height pictures epoch → k < length epoch.regions
    → AreCuesOf pictures (get_or epoch.regions k other) epoch.cues
cues_fit origin width height pictures epoch k other drawn right inside n any below names =
    let is_cue = All-get_or (IsCue origin epoch.start epoch.regions pictures) epoch.cues n any below right.cues in
    let region =
    region_named epoch.regions k other is_cue.region (get_or epoch.cues n any).region right.regions.apart inside
    names is_cue.found in
    let fits =
    subst (λ (r : Region). FitsRegion r (get_or epoch.cues n any).x (get_or epoch.cues n any).y
    (picture_at_place pictures (get_or epoch.cues n any).picture)) region is_cue.fits in
    let is_picture : IsPicture (picture_at_place pictures (get_or epoch.cues n any).picture) =
    All-get_or IsPicture pictures (get_or epoch.cues n any).picture (picture_of 0 0 Two []) is_cue.picture drawn in
    record {
      picture = is_cue.picture;
      across = fits.across;
      down = fits.down;
      codes = λ column row.
          let code = code_below (picture_at_place pictures (get_or epoch.cues n any).picture) is_picture column row in
          let more =
          deeper (picture_at_place pictures (get_or epoch.cues n any).picture).depth
          (get_or epoch.regions k other).depth fits.shallow in
          omega arith;
    }

pub FitsIn-decided : (pictures : List Picture) (region : Region) (cue : Cue)
    → ((FitsIn pictures region cue → ⊥) → ⊥) → FitsIn pictures region cue
FitsIn-decided pictures region cue not_not = record {
  picture = decide_le _ _ (λ fails. not_not (λ fits. fails fits.picture));
  across = decide_le _ _ (λ fails. not_not (λ fits. fails fits.across));
  down = decide_le _ _ (λ fails. not_not (λ fits. fails fits.down));
  codes = λ column row. decide_le _ _ (λ fails. not_not (λ fits. fails (fits.codes column row)));
}

-- two regions that are apart have no place in common
pub no_place_in_two : (column row : ℕ) (first second : Region) → AreSeparate first second
    → lies_in column row first ≡ true → lies_in column row second ≡ true → ⊥
no_place_in_two column row first second apart in_first in_second =
    elim apart.rows [
      | inl above ↦ grind (arith, nat_tests)
      | inr below ↦ grind (arith, nat_tests)
    ]

-- no region before one in which a place lies has this place
pub none_before : (column row k : ℕ) (other : Region) (regions : List Region) → AllPairs AreSeparate regions
    → k < length regions → lies_in column row (get_or regions k other) ≡ true →
    (found : Region) → find (lies_in column row) (take k regions) ≡ Some found → ⊥
none_before column row k other regions apart inside lies found is_found =
    let there = Found-find (lies_in column row) (take k regions) found is_found in
    let before : there.place < k = omega (arith, there.inside, length-take k regions) in
    let at : get_or regions there.place other ≡ found =
    sym (get_or-take k regions there.place other before) ∙ there.is other in
    no_place_in_two column row (get_or regions there.place other) (get_or regions k other)
    (apart there.place k other before inside)
    (ap (lies_in column row) at ∙ there.passes) lies

pub none_from : {X : Type 0} (option : Option X) → ((x : X) → option ≡ Some x → ⊥) → option ≡ None
none_from None never = refl
none_from (Some x) never = absurd (never x refl)

-- the regions of an epoch that was found in a script can be painted
pub ArePaintable-found : (origin width height refresh : ℕ) (epochs : List Epoch) (pictures : List Picture)
    (tick : ℕ) (epoch : Epoch) →
    ∥ IsSoundScript origin width height refresh epochs pictures ∥₁ → epoch_at epochs tick ≡ Some epoch
    → ArePaintable width height pictures epoch.cues epoch.regions
ArePaintable-found origin width height refresh epochs pictures tick epoch sound found =
    let right : IsSoundScript origin width height refresh epochs pictures → IsEpoch origin width height pictures epoch =
    λ s. epoch_is_right origin width height refresh epochs pictures tick epoch s found in
    record {
      across =
          λ k other inside. decide_le _ _
          (λ fails. not_there sound
          (λ s. fails (region_within origin width height pictures epoch k other (right s) inside).across));
      down =
          λ k other inside. decide_le _ _
          (λ fails. not_there sound
          (λ s. fails (region_within origin width height pictures epoch k other (right s) inside).down));
      fit = λ k other inside n any below names.
          FitsIn-decided pictures (get_or epoch.regions k other) (get_or epoch.cues n any)
          (λ fails. not_there sound
          (λ s. fails
          (cues_fit origin width height pictures epoch k other s.drawn (right s) inside n any below names)));
      alone = λ column row k other inside lies.
          none_from (find (lies_in column row) (take k epoch.regions))
          (λ region is_found. not_there sound
          (λ s. none_before column row k other epoch.regions (right s).regions.apart inside lies region is_found));
    }
