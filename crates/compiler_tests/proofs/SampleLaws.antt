-- The script of the tests is valid.
use Rattle.std.proofs.Common.{◌≡◌, ℕ, ◌+◌, ◌*◌, ◌<◌, ◌≤◌, inl, inr, List, [], ◌∷◌, refl, sym, ap, subst, arith}
use Rattle.std.specs.Prelude.{All, AllPairs}
use Rattle.std.proofs.lemmas.List.Elements.{All-cons}
use Rattle.std.proofs.lemmas.List.Kept.{AllPairs-cons}
use Rattle.sub_base.specs.Depth.{bits_of}
use Rattle.sub_base.specs.Picture.{Picture, IsPicture}
use Rattle.sub_base.specs.declared.depth.Depth.{Depth}
use Rattle.sub_base.specs.declared.depth.Depth.TheVariants.{Four}
use Rattle.cue_list.specs.Sound.{IsSoundScript, IsEpoch, IsTick, IsRegion, AreSeparate, IsColourRow, IsCue, Follows, AreTicksApart, FitsRegion}
use Rattle.cue_list.specs.declared.epoch.Epoch.{Epoch}
use Rattle.compiler_tests.specs.Private.Sample.{sample, sample_region, sample_colour, solid_cue, through_cue}

none : {X : Type 0} (P : X → Type 0) → All P []
none P = λ k d h. absurd (omega arith)

one : {X : Type 0} (P : X → Type 0) (x : X) → P x → All P (x ∷ [])
one P x h = All-cons P x [] h (none P)

no_pairs : {X : Type 0} (R : X → X → Type 0) → AllPairs R []
no_pairs R = λ i j d h l. absurd (omega arith)

one_pair : {X : Type 0} (R : X → X → Type 0) (x : X) → AllPairs R (x ∷ [])
one_pair R x = AllPairs-cons R x [] (none (R x)) (no_pairs R)

-- the sides and the depth of the pictures
pub record IsSmall (picture : Picture) : Type 0 where
  pub picture_is : IsPicture picture
  pub width : picture.width ≡ 4
  pub height : picture.height ≡ 1
  pub depth : picture.depth ≡ Four

fits : (picture : Picture) → IsSmall picture → FitsRegion sample_region 0 0 picture
fits picture s = record {
  across = omega (arith, s.width);
  down = omega (arith, s.height);
  shallow = subst (λ (d : Depth). bits_of d ≤ 4) (sym s.depth) (omega arith);
}

tick : (n : ℕ) → n ≤ 3240000000 → IsTick 0 n
tick n h = record { late = omega arith; early = omega arith }

same : (n : ℕ) → AreTicksApart n n
same n = inl refl

below : (m n : ℕ) → m + 3600 < n → AreTicksApart m n
below m n h = inr (inl h)

above : (m n : ℕ) → n + 3600 < m → AreTicksApart m n
above m n h = inr (inr h)

later : All (AreTicksApart 90000) (270000 ∷ 135000 ∷ 270000 ∷ [])
later =
    All-cons (AreTicksApart 90000) 270000 (135000 ∷ 270000 ∷ []) (below 90000 270000 (omega arith))
    (All-cons (AreTicksApart 90000) 135000 (270000 ∷ []) (below 90000 135000 (omega arith))
    (one (AreTicksApart 90000) 270000 (below 90000 270000 (omega arith))))

one_later : All (AreTicksApart 90000) (90000 ∷ 270000 ∷ 135000 ∷ 270000 ∷ [])
one_later = All-cons (AreTicksApart 90000) 90000 (270000 ∷ 135000 ∷ 270000 ∷ []) (same 90000) later

last : AllPairs AreTicksApart (270000 ∷ 135000 ∷ 270000 ∷ [])
last =
    AllPairs-cons AreTicksApart 270000 (135000 ∷ 270000 ∷ [])
    (All-cons (AreTicksApart 270000) 135000 (270000 ∷ []) (above 270000 135000 (omega arith))
    (one (AreTicksApart 270000) 270000 (same 270000)))
    (AllPairs-cons AreTicksApart 135000 (270000 ∷ [])
    (one (AreTicksApart 135000) 270000 (below 135000 270000 (omega arith))) (one_pair AreTicksApart 270000))

ticks : AllPairs AreTicksApart (90000 ∷ 90000 ∷ 90000 ∷ 270000 ∷ 135000 ∷ 270000 ∷ [])
ticks =
    AllPairs-cons AreTicksApart 90000 (90000 ∷ 90000 ∷ 270000 ∷ 135000 ∷ 270000 ∷ [])
    (All-cons (AreTicksApart 90000) 90000 (90000 ∷ 270000 ∷ 135000 ∷ 270000 ∷ []) (same 90000) one_later)
    (AllPairs-cons AreTicksApart 90000 (90000 ∷ 270000 ∷ 135000 ∷ 270000 ∷ []) one_later
    (AllPairs-cons AreTicksApart 90000 (270000 ∷ 135000 ∷ 270000 ∷ []) later last))

sample_right : (first second : Picture) → IsSmall first → IsSmall second
    → IsEpoch 0 4 1 (first ∷ second ∷ []) sample
sample_right first second p q = record {
  starts = tick 90000 (omega arith);
  regions = record {
    many = omega arith;
    each =
        one (IsRegion 4 1) sample_region
        (record {
          numbers = (omega arith, omega arith);
          wide = omega arith;
          high = omega arith;
          across = omega arith;
          down = omega arith;
        });
    apart = one_pair AreSeparate sample_region;
  };
  colours =
      one (IsColourRow 0 90000) sample_colour
      (record {
        tick = tick 90000 (omega arith);
        within = omega arith;
        clut = omega arith;
        entry = omega arith;
        shown = refl;
        bytes = (omega arith, omega arith, omega arith, omega arith);
      });
  cues = All-cons (IsCue 0 90000 sample.regions (first ∷ second ∷ [])) solid_cue (through_cue ∷ [])
      (record {
        starts = tick 90000 (omega arith);
        ends = tick 270000 (omega arith);
        within = omega arith;
        lasts = omega
            arith;
        short = omega arith;
        picture = omega arith;
        region = sample_region;
        found = refl;
        fits = fits first
            p;
      })
      (one (IsCue 0 90000 sample.regions (first ∷ second ∷ [])) through_cue
      (record {
        starts = tick 135000 (omega arith);
        ends = tick 270000 (omega arith);
        within = omega arith;
        lasts = omega arith;
        short = omega arith;
        picture = omega arith;
        region = sample_region;
        found = refl;
        fits = fits second q;
      }));
}

small : {a b : ℕ} → a ≤ 4 → b ≤ 4 → 0 + a + b ≤ 268435456
small h k = omega arith

sound : (first second : Picture) → IsSmall first → IsSmall second
    → IsSoundScript 0 4 1 450000 (sample ∷ []) (first ∷ second ∷ [])
sound first second p q = record {
  early = omega arith;
  wide = (omega arith, omega arith);
  high = (omega arith, omega arith);
  seconds = 5;
  whole = refl;
  often = (omega arith, omega arith);
  some_epoch = omega arith;
  few_epochs = omega arith;
  each = one (IsEpoch 0 4 1 (first ∷ second ∷ [])) sample (sample_right first second p q);
  follow = one_pair Follows sample;
  apart = ticks;
  few_colours = omega arith;
  few_cues = omega arith;
  few_pictures = omega arith;
  drawn = All-cons IsPicture first (second ∷ []) p.picture_is (one IsPicture second q.picture_is);
  small =
      small (omega (arith, ap (λ (n : ℕ). n * first.height) p.width, p.height))
      (omega (arith, ap (λ (n : ℕ). n * second.height) q.width, q.height));
}

pub sample_sound : (first second : Picture) (epochs : List Epoch) (pictures : List Picture) → IsSmall first
    → IsSmall second → epochs ≡ sample ∷ [] → pictures ≡ first ∷ second ∷ []
    → IsSoundScript 0 4 1 450000 epochs pictures
sample_sound first second epochs pictures p q e f =
    subst (λ (es : List Epoch). IsSoundScript 0 4 1 450000 es pictures) (sym e)
    (subst (IsSoundScript 0 4 1 450000 (sample ∷ [])) (sym f) (sound first second p q))
