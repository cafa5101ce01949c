-- The regions, the cues and the pictures of a generated script, one by one.
use Rattle.std.proofs.Common.{◌≡◌, ◌∙◌, ℕ, ◌+◌, ◌*◌, ◌/◌, ◌%◌, eqb, ◌<◌, ◌⊎◌, inl, inr, min, List, [], ◌∷◌, length, Some, sym, ap, subst, refl, arith}
use Rattle.std.specs.Prelude.{slice_get, find}
use Rattle.std.proofs.lemmas.List.FromFn.{get_or-map-range_with_len}
use Rattle.std.proofs.lemmas.Option.{get_or_from_slice_get, slice_get_within}
use Rattle.sub_base.specs.Picture.{Picture, picture_of}
use Rattle.sub_base.specs.declared.depth.Depth.TheVariants.{Two, Four}
use Rattle.cue_list.specs.Authored.{picture_at_place}
use Rattle.cue_list.specs.declared.epoch.Cue.{Cue}
use Rattle.cue_list.specs.declared.epoch.Epoch.{Epoch}
use Rattle.cue_records.specs.declared.region.Region.{Region}
use Rattle.cue_list.specs.declared.script.Script.{Script}
use Rattle.page_epoch.specs.Live.{cue_at, no_cue}
use Rattle.set_coder.specs.SetSegments.{region_or_none, epoch_region, picture_of_cue, depth_of_cue}
use Rattle.generated_script.proofs.TickLaws.{epoch_at, cue_of, cue_count}
use Rattle.generated_script.specs.Generated.{generated_picture, generated_region, IsGeneratedCue, IsGeneratedEpoch, IsGenerated}

-- the epoch that is found at a place
pub epoch_found : (number place : ℕ) (script : Script) (epoch : Epoch) → IsGenerated number script
    → slice_get script.epochs place ≡ Some epoch → IsGeneratedEpoch number place epoch
epoch_found number place script epoch is found =
    subst (IsGeneratedEpoch number place) (get_or_from_slice_get script.epochs place epoch epoch found)
    (epoch_at number script.epochs place epoch is.epochs (slice_get_within script.epochs place epoch found))

-- the cue at a place of an epoch
cue_there : (number e : ℕ) (epoch : Epoch) → IsGeneratedEpoch number e epoch → (place : ℕ)
    → place < length epoch.cues
    → (16 * e + place < number) × IsGeneratedCue (16 * e + place) (cue_at epoch.cues place)
cue_there number e epoch is place h =
    (omega (arith, cue_count number e epoch is), cue_of number e epoch is place no_cue h)

-- ---- regions

-- a region of 96 by 48 pixels of four bits
pub record IsOwnRegion (region : Region) : Type 0 where
  pub width : region.width ≡ 96
  pub height : region.height ≡ 48
  pub depth : region.depth ≡ Four

-- the region of that number among some
abbrev among : List Region → ℕ → Region
among regions id = region_or_none (find (λ (region : Region). eqb region.id id) regions)

-- the first of an epoch's regions is such
first_of_both : IsOwnRegion (among (generated_region 0 ∷ generated_region 1 ∷ []) 0)
first_of_both = record { width = refl; height = refl; depth = refl }

-- and so is the second
second_of_both : IsOwnRegion (among (generated_region 0 ∷ generated_region 1 ∷ []) 1)
second_of_both = record { width = refl; height = refl; depth = refl }

-- so the regions of an epoch are, by their numbers
pub own_region : (number e id : ℕ) (epoch : Epoch) → IsGeneratedEpoch number e epoch → (id ≡ 0) ⊎ (id ≡ 1)
    → IsOwnRegion (epoch_region epoch id)
own_region number e id epoch is (inl first) =
    subst (λ (n : ℕ). IsOwnRegion (among epoch.regions n)) (sym first)
    (subst (λ (regions : List Region). IsOwnRegion (among regions 0)) (sym is.regions) first_of_both)
own_region number e id epoch is (inr second) =
    subst (λ (n : ℕ). IsOwnRegion (among epoch.regions n)) (sym second)
    (subst (λ (regions : List Region). IsOwnRegion (among regions 1)) (sym is.regions) second_of_both)

-- painting such a region takes 72 ticks
pub own_painting : (region : Region) → IsOwnRegion region → (region.width * region.height + 63) / 64 ≡ 72
own_painting region is =
    ap (λ (w : ℕ). (w * region.height + 63) / 64) is.width ∙ ap (λ (h : ℕ). (96 * h + 63) / 64) is.height

-- a number is even or odd
even_or_odd : (k : ℕ) → (k % 2 ≡ 0) ⊎ (k % 2 ≡ 1)
even_or_odd k = grind arith

-- ---- the cue at a place of an epoch

-- its region has four bits
pub own_depth : (number e place : ℕ) (epoch : Epoch) → IsGeneratedEpoch number e epoch → place < length epoch.cues
    → depth_of_cue epoch place ≡ Four
own_depth number e place epoch is h =
    let cue = (cue_there number e epoch is place h).1 in
    ap (λ (n : ℕ). (epoch_region epoch n).depth) (ap (λ (c : Cue). c.region) cue)
    ∙ (own_region number e ((16 * e + place) % 2) epoch is (even_or_odd (16 * e + place))).depth

-- its picture is the generated one
pub own_picture : (number e place : ℕ) (script : Script) (epoch : Epoch) → IsGenerated number script
    → IsGeneratedEpoch number e epoch → place < length epoch.cues →
    picture_of_cue script.pictures epoch place ≡ generated_picture ((16 * e + place) % 16)
own_picture number e place script epoch made is h =
    let k = 16 * e + place in
    let there = cue_there number e epoch is place h in
    let none : Picture = picture_of 0 0 Two [] in
    ap (picture_at_place script.pictures) (ap (λ (c : Cue). c.picture) there.1)
    ∙ ap (λ (pictures : List Picture). picture_at_place pictures (k % 16)) made.pictures
    ∙ get_or-map-range_with_len generated_picture 0 (min number 16) (k % 16) (k % 16) none (omega (arith, there.0))
    (omega arith)
