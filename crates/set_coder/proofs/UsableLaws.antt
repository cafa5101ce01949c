-- The epochs of a script that is valid name what is there, and their numbers fit the fields of segments.
use Rattle.std.proofs.Common.{◌≡◌, ℕ, ◌≤◌, Bool, true, false, cond, eqb, List, [], ◌∷◌, length, get_or, Option, Some, None, refl, sym, ap, subst, ◌∙◌, arith}
use Rattle.std.proofs.lemmas.Bool.{eqb-true}
use Rattle.std.proofs.lemmas.List.Elements.{All-head, All-tail}
use Rattle.std.specs.Prelude.{All, find, slice_get, is_some}
use Rattle.std.proofs.Math.Logic.{∥∥₁_elim}
use Rattle.std.proofs.Props.{props}
use Rattle.std.proofs.lemmas.Option.{slice_get_within, get_or_from_slice_get}
use Rattle.std.proofs.lemmas.List.Sums.{get_or-le-sum_by}
use Rattle.sub_base.specs.Picture.{Picture}
use Rattle.sub_base.specs.Depth.{code_count}
use Rattle.sub_base.specs.declared.depth.Depth.{Depth}
use Rattle.sub_base.specs.declared.depth.Depth.TheVariants.{Two, Four, Eight}
use Rattle.stream_syntax.specs.PixelBlocks.{IsNoDeeper}
use Rattle.cue_list.specs.Sound.{IsSoundScript, IsEpoch, IsCue}
use Rattle.cue_list.specs.Authored.{picture_at_place}
use Rattle.page_epoch.specs.Sendable.{HasRegion}
use Rattle.cue_list.specs.declared.epoch.Cue.{Cue}
use Rattle.cue_list.specs.declared.epoch.Epoch.{Epoch}
use Rattle.cue_records.specs.declared.region.Region.{Region}
use Rattle.set_coder.specs.SetSegments.{region_or_none, epoch_region}
use Rattle.set_coder.specs.Usable.{IsUsable, IsUsableRegion, IsUsablePlace, IsDrawable, AreDrawable}

-- ---- what a search finds

-- what holds of each item holds of the one that is found
pub find_holds : {X : Type 0} (P : X → Type 0) (test : X → Bool) (xs : List X) (x : X) → All P xs
    → find test xs ≡ Some x → P x
find_holds P test [] x all found = cc
find_holds P test (y ∷ ys) x all found = by (test y) found (find_holds P test ys x (All-tail P y ys all))
  where
    by : (b : Bool) → cond b (Some y) (find test ys) ≡ Some x → (find test ys ≡ Some x → P x) → P x
    by true f more = let same : y ≡ x = cc in subst P same (All-head P y ys all)
    by false f more = more f

-- the one that is found passes the test
pub find_passes : {X : Type 0} (test : X → Bool) (xs : List X) (x : X) → find test xs ≡ Some x → test x ≡ true
find_passes test [] x found = cc
find_passes test (y ∷ ys) x found = by (test y) refl found (find_passes test ys x)
  where
    by : (b : Bool) → test y ≡ b → cond b (Some y) (find test ys) ≡ Some x
        → (find test ys ≡ Some x → test x ≡ true) → test x ≡ true
    by true e f more = let same : y ≡ x = cc in subst (λ z. test z ≡ true) same e
    by false e f more = more f

usable_prop : (pictures : List Picture) (epoch : Epoch) → IsProp (IsUsable epoch × AreDrawable pictures epoch)
usable_prop pictures epoch = hlevel props

few_codes : (depth : Depth) → code_count depth ≤ 256
few_codes Two = omega arith
few_codes Four = omega arith
few_codes Eight = omega arith

placed_cue : (origin start : ℕ) (pictures : List Picture) (epoch : Epoch) (cue : Cue)
    → All IsUsableRegion epoch.regions → IsCue origin start epoch.regions pictures cue → IsUsablePlace cue
placed_cue origin start pictures epoch cue regions r =
    let region : IsUsableRegion r.region =
    find_holds IsUsableRegion (λ (region : Region). eqb region.id cue.region) epoch.regions r.region regions
    r.found in
    record { x = omega (arith, r.fits.across, region.width); y = omega (arith, r.fits.down, region.height) }

drawn_cue : (origin start : ℕ) (pictures : List Picture) (epoch : Epoch) (cue : Cue)
    → All IsUsableRegion epoch.regions → IsCue origin start epoch.regions pictures cue
    → IsDrawable pictures epoch cue
drawn_cue origin start pictures epoch cue regions r =
    let region : IsUsableRegion r.region =
    find_holds IsUsableRegion (λ (region : Region). eqb region.id cue.region) epoch.regions r.region regions
    r.found in
    record {
      picture = r.picture;
      region = ap is_some r.found;
      shallow =
          subst (λ (one : Region). IsNoDeeper (picture_at_place pictures cue.picture).depth one.depth)
          (sym (ap region_or_none r.found)) r.fits.shallow;
      wide = omega (arith, r.fits.across, region.width);
      high = omega (arith, r.fits.down, region.height);
    }

usable_from : (origin width height refresh place : ℕ) (epochs : List Epoch) (pictures : List Picture)
    (epoch : Epoch) → slice_get epochs place ≡ Some epoch → IsSoundScript origin width height refresh epochs pictures
    → IsUsable epoch × AreDrawable pictures epoch
usable_from origin width height refresh place epochs pictures epoch found s =
    let within = slice_get_within epochs place epoch found in
    let same : get_or epochs place epoch ≡ epoch = get_or_from_slice_get epochs place epoch epoch found in
    let right : IsEpoch origin width height pictures epoch =
    subst (IsEpoch origin width height pictures) same (s.each place epoch within) in
    let few_here : length (get_or epochs place epoch).cues ≤ 4096 =
    omega (arith, s.few_cues, get_or-le-sum_by (λ (e : Epoch). length e.cues) epochs place epoch within) in
    let regions : All IsUsableRegion epoch.regions = λ k d lt. let r = right.regions.each k d lt in record {
      id = r.numbers.0;
      clut = r.numbers.1;
      x = omega (arith, r.across, s.wide);
      y = omega (arith, r.down, s.high);
      wide = r.wide;
      width = omega (arith, r.across, s.wide);
      high = r.high;
      height = omega (arith, r.down, s.high);
    } in
    let few : length epoch.cues ≤ 4096 = subst (λ (e : Epoch). length e.cues ≤ 4096) same few_here in (
      record {
        regions = regions;
        colours = λ k d lt. let r = right.colours k d lt in record {
          entry = omega (arith, r.entry, few_codes (get_or epoch.colours k d).depth);
          shown = r.shown;
          y = r.bytes.0;
          cr = r.bytes.1;
          cb = r.bytes.2;
          t = r.bytes.3;
        };
        few_cues = few;
        cues =
            λ k d lt. placed_cue origin epoch.start pictures epoch (get_or epoch.cues k d) regions (right.cues k d lt);
      },
      λ k d lt. drawn_cue origin epoch.start pictures epoch (get_or epoch.cues k d) regions (right.cues k d lt),
    )

-- the epochs of a script are usable
pub usable : (origin width height refresh place : ℕ) (epochs : List Epoch) (pictures : List Picture)
    (epoch : Epoch) → ∥ IsSoundScript origin width height refresh epochs pictures ∥₁
    → slice_get epochs place ≡ Some epoch → IsUsable epoch × AreDrawable pictures epoch
usable origin width height refresh place epochs pictures epoch sound found =
    ∥∥₁_elim sound (usable_prop pictures epoch)
    (usable_from origin width height refresh place epochs pictures epoch found)

-- the region of a number that an epoch has
pub usable_region : (epoch : Epoch) (id : ℕ) → IsUsable epoch → HasRegion epoch id
    → IsUsableRegion (epoch_region epoch id) × (id ≤ 255)
usable_region epoch id u has = by (find (λ (region : Region). eqb region.id id) epoch.regions) refl
  where
    by : (o : Option Region) → find (λ (region : Region). eqb region.id id) epoch.regions ≡ o
        → IsUsableRegion (epoch_region epoch id) × (id ≤ 255)
    by None e = absurd (let h = (rw e at has) in cc)
    by (Some region) e =
        let right = find_holds IsUsableRegion (λ (one : Region). eqb one.id id) epoch.regions region u.regions e in
        let same = eqb-true region.id id (find_passes (λ (one : Region). eqb one.id id) epoch.regions region e) in
        let small : id ≤ 255 = omega (arith, right.id, same) in
        (subst IsUsableRegion (sym (ap region_or_none e)) right, small)

-- the item that stands at a place of a list is the one that is found there
pub found_once : {X : Type 0} (xs : List X) (place : ℕ) (x y : X) (ys : List X) → slice_get xs place ≡ Some x
    → ys ≡ xs → y ≡ get_or ys place y → (slice_get xs place ≡ Some y) × (x ≡ y)
found_once xs place x y ys found same is =
    let here : get_or xs place y ≡ x = get_or_from_slice_get xs place x y found in
    let one : x ≡ y = sym here ∙ ap (λ zs. get_or zs place y) (sym same) ∙ sym is in
    (found ∙ ap Some one, one)
