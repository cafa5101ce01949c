-- The segments of a display set of a generated script have few bytes together.
use Rattle.std.proofs.Common.{◌≡◌, ◌∙◌, ℕ, ◌+◌, ◌*◌, ◌%◌, eqb, ◌<◌, ◌≤◌, ◌⊎◌, Bool, true, false, List, [], ◌∷◌, ◌++◌, length, map, sum_by, ap, subst, refl, arith, length-append}
use Rattle.std.specs.Prelude.{All, ◌||◌}
use Rattle.std.specs.List.{list_any}
use Rattle.std.proofs.lemmas.Bool.{eqb-true}
use Rattle.std.proofs.lemmas.List.Elements.{All-head, All-tail}
use Rattle.std.proofs.lemmas.List.Sums.{sum_by-cons, sum_by-append}
use Rattle.sub_base.specs.Picture.{Picture}
use Rattle.sub_base.specs.declared.depth.Depth.{Depth}
use Rattle.sub_base.specs.declared.depth.Depth.TheVariants.{Four}
use Rattle.stream_syntax.specs.FieldBlocks.{AreFieldSizes}
use Rattle.stream_syntax.specs.declared.page.State.{State}
use Rattle.stream_syntax.specs.declared.page.State.TheVariants.{Normal, Acquisition, ModeChange}
use Rattle.pes_packets.proofs.Filling.{own}
use Rattle.cue_list.specs.declared.epoch.Epoch.{Epoch}
use Rattle.cue_list.specs.declared.script.Script.{Script}
use Rattle.page_epoch.specs.declared.planned_set.PlannedSet.{PlannedSet}
use Rattle.page_epoch.specs.declared.planned_set.SentClut.{SentClut}
use Rattle.page_epoch.specs.declared.planned_set.SentRegion.{SentRegion}
use Rattle.set_coder.specs.SetSegments.{epoch_region, picture_of_cue, depth_of_cue}
use Rattle.segments.specs.Sizes.{object_size}
use Rattle.set_coder.specs.SetSizes.{display_sizes, page_size, region_size, clut_size, leading_sizes, sent_painting, IsObjectSize, AreObjectSizes, AreSegmentSizes}
use Rattle.generated_script.specs.Generated.{generated_picture, IsGeneratedEpoch, IsGenerated}
use Rattle.generated_script_laws.specs.Listed.{ListsFew}
use Rattle.generated_script_laws.proofs.GeneratedFields.{fields_short}
use Rattle.generated_script_laws.proofs.ScriptParts.{own_region, own_painting, own_depth, own_picture}

-- ---- objects

-- thirteen bytes and the two blocks, made even
even_short : (top bottom : ℕ) → top ≤ 304 → bottom ≤ 304 → object_size top bottom ≤ 622
even_short top bottom h g = omega arith

-- an object of a generated picture has at most 622 bytes
object_by : (picture : Picture) (depth : Depth) (k top bottom : ℕ) → picture ≡ generated_picture k
    → depth ≡ Four
    → AreFieldSizes picture depth top bottom → object_size top bottom ≤ 622
object_by picture depth k top bottom is four sizes =
    let own_sizes =
    subst (λ (d : Depth). AreFieldSizes (generated_picture k) d top bottom) four
    (subst (λ (p : Picture). AreFieldSizes p depth top bottom) is sizes) in
    let few = fields_short k top bottom own_sizes in
    even_short top bottom few.0 few.1

-- and so has the object of each cue of a generated script
pub object_short : (number e place size : ℕ) (script : Script) (epoch : Epoch) → IsGenerated number script
    → IsGeneratedEpoch number e epoch → place < length epoch.cues →
    IsObjectSize script.pictures epoch place size → size ≤ 622
object_short number e place size script epoch made is h sized =
    let few =
    object_by (picture_of_cue script.pictures epoch place) (depth_of_cue epoch place) ((16 * e + place) % 16)
    sized.0 sized.1
    (own_picture number e place script epoch made is h) (own_depth number e place epoch is h) sized.2 in
    omega (arith, few, sized.3)

-- objects have together no more than each may have
objects_by : (pictures : List Picture) (epoch : Epoch) (places sizes : List ℕ)
    → ((place size : ℕ) → place < length epoch.cues → IsObjectSize pictures epoch place size → size ≤ 622)
    → All (λ place. place < length epoch.cues) places → AreObjectSizes pictures epoch places sizes
    → sum_by own sizes ≤ 622 * length places
objects_by pictures epoch [] [] each all are = omega arith
objects_by pictures epoch [] (size ∷ sizes) each all are = absurd are
objects_by pictures epoch (place ∷ places) [] each all are = absurd are
objects_by pictures epoch (place ∷ places) (size ∷ sizes) each all are =
    omega (
      arith,
      sum_by-cons own size sizes,
      each place size (All-head (λ (p : ℕ). p < length epoch.cues) place places all) are.0,
      objects_by pictures epoch places sizes each (All-tail (λ (p : ℕ). p < length epoch.cues) place places all)
          are.1,
    )

-- ---- the segments before the objects

-- a display definition has eleven bytes
display_short : (state : State) → sum_by own (display_sizes state) ≤ 11
display_short Normal = omega arith
display_short Acquisition = omega arith
display_short ModeChange = omega arith

-- the bytes of regions are 16 each, and six for each listing
regions_sum : (regions : List SentRegion)
    → sum_by own (map region_size regions)
    ≡ 16 * length regions + 6 * sum_by (λ (sent : SentRegion). length sent.cues) regions
regions_sum [] = refl
regions_sum (sent ∷ regions) =
    omega (
      arith,
      sum_by-cons own (region_size sent) (map region_size regions),
      sum_by-cons (λ (other : SentRegion). length other.cues) sent regions,
      regions_sum regions,
    )

-- the bytes before the objects, kind by kind
leading_sum : (set : PlannedSet) → sum_by own (leading_sizes set) ≡
    sum_by own (display_sizes set.state) +
    (page_size set + (sum_by own (map region_size set.regions) + sum_by own (map clut_size set.cluts)))
leading_sum set =
    omega (
      arith,
      sum_by-append own (display_sizes set.state) (page_size set ∷ (map region_size set.regions
          ++ map clut_size set.cluts)),
      sum_by-cons own (page_size set) (map region_size set.regions ++ map clut_size set.cluts),
      sum_by-append own (map region_size set.regions) (map clut_size set.cluts),
    )

-- where few cues are listed, these are at most 81
leading_short : (epoch : Epoch) (set : PlannedSet) → ListsFew epoch set → sum_by own (leading_sizes set) ≤ 81
leading_short epoch set few =
    let cluts : sum_by own (map clut_size set.cluts) ≡ 0 =
    ap (λ (cluts : List SentClut). sum_by own (map clut_size cluts)) few.cluts in
    omega (
      arith,
      leading_sum set,
      display_short set.state,
      regions_sum set.regions,
      cluts,
      few.shown,
      few.regions,
      few.listings,
    )

-- ---- the whole set

-- the segments of a set have at most 1,953 bytes together
pub segments_short : (number : ℕ) (script : Script) (set : PlannedSet) (sizes : List ℕ)
    → IsGenerated number script
    → (are : AreSegmentSizes script set sizes) →
    IsGeneratedEpoch number set.epoch are.epoch → ListsFew are.epoch set → sum_by own sizes ≤ 1953
segments_short number script set sizes made are is few =
    let objects =
    objects_by script.pictures are.epoch set.cues are.objects
    (λ place size h sized. object_short number set.epoch place size script are.epoch made is h sized) few.there
    are.coded in
    let all = ap (sum_by own) are.whole ∙ sum_by-append own (leading_sizes set) (are.objects ++ 6 ∷ []) in
    omega (
      arith,
      all,
      sum_by-append own are.objects (6 ∷ []),
      sum_by-cons own 6 [],
      objects,
      few.cues,
      leading_short are.epoch set few,
    )

-- there is a segment at least
pub segments_some : (script : Script) (set : PlannedSet) (sizes : List ℕ) → AreSegmentSizes script set sizes
    → 1 ≤ length sizes
segments_some script set sizes are =
    omega (
      arith,
      ap length are.whole,
      length-append (leading_sizes set) (are.objects
          ++ 6 ∷ []),
      length-append are.objects (6 ∷ []),
    )

-- one of the segments has no more bytes than all have together
pub one_within : (sizes : List ℕ) (one : ℕ) → list_any (λ size. eqb size one) sizes ≡ true
    → one ≤ sum_by own sizes
one_within [] one e = absurd (let f : false ≡ true = e in cc)
one_within (size ∷ sizes) one e = by (one_within sizes one) (eqb size one) refl e
  where
    by : (list_any (λ size. eqb size one) sizes ≡ true → one ≤ sum_by own sizes) → (b : Bool)
        → eqb size one ≡ b
        → b || list_any (λ size. eqb size one) sizes ≡ true → one ≤ sum_by own (size ∷ sizes)
    by more true here e = omega (arith, eqb-true size one here, sum_by-cons own size sizes)
    by more false here e = omega (arith, more e, sum_by-cons own size sizes)

-- ---- painting

-- painting the regions of a set takes 72 ticks each
regions_painted : (number e : ℕ) (epoch : Epoch) (regions : List SentRegion) → IsGeneratedEpoch number e epoch
    → All (λ (sent : SentRegion). (sent.id ≡ 0) ⊎ (sent.id ≡ 1)) regions →
    sum_by (sent_painting epoch) regions ≡ 72 * length regions
regions_painted number e epoch [] is ids = refl
regions_painted number e epoch (sent ∷ regions) is ids =
    omega (
      arith,
      sum_by-cons (sent_painting epoch) sent regions,
      own_painting (epoch_region epoch sent.id)
          (own_region number e sent.id epoch is (All-head (λ (other : SentRegion). (other.id ≡ 0)
          ⊎ (other.id ≡ 1)) sent regions ids)),
      regions_painted number e epoch regions is (All-tail (λ (other : SentRegion). (other.id ≡ 0)
          ⊎ (other.id ≡ 1)) sent regions ids),
    )

-- so painting those of a set that sends two takes at most 144
pub painted_short : (number e : ℕ) (epoch : Epoch) (set : PlannedSet) → IsGeneratedEpoch number e epoch
    → ListsFew epoch set → sum_by (sent_painting epoch) set.regions ≤ 144
painted_short number e epoch set is few =
    omega (arith, regions_painted number e epoch set.regions is few.ids, few.regions)
