-- A script of two regions, each of one pixel. The cue of one is over before the page is sent again, the cue of the
-- other is not.
use Rattle.std.proofs.Common.{ℕ, ◌+◌, ◌<◌, ◌≤◌, inl, inr, false, List, [], ◌∷◌, refl, arith, AllPairs}
use Rattle.std.specs.List.{AllByRecursion, flat_map}
use Rattle.std.proofs.lemmas.List.Elements.{All-nil, All-from_recursion}
use Rattle.std.proofs.lemmas.List.Kept.{AllPairs-cons}
use Rattle.sub_base.specs.Picture.{Picture, IsPicture}
use Rattle.sub_base.specs.Depth.{code_count}
use Rattle.sub_base.specs.declared.depth.Depth.TheVariants.{Two}
use Rattle.cue_list.specs.Sound.{AreSeparate, AreRegions, AreTicksApart, Follows, IsColourRow, IsCue, IsEpoch, IsRegion, IsSoundScript, IsTick, ticks_of}
use Rattle.cue_list.specs.declared.epoch.Cue.{Cue}
use Rattle.cue_list.specs.declared.epoch.Epoch.{Epoch}
use Rattle.cue_records.specs.declared.region.Region.{Region}
use Rattle.cue_list.specs.declared.script.Script.{Script}

-- ---- its parts

-- a pixel of code 1
abbrev pub picture : Picture
picture = record { width = 1; height = 1; depth = Two; codes = 1 ∷ [] }

-- a region of one pixel in a row of the display
abbrev pub region_at : ℕ → ℕ → Region
region_at id row = record { id = id; x = 0; y = row; width = 1; height = 1; depth = Two; clut = 0 }

-- a cue with the picture, from 1 s on
abbrev pub cue_until : ℕ → ℕ → ℕ → Cue
cue_until id end row = record {
  start = 90000;
  end = end;
  row = row;
  region = id;
  x = 0;
  y = 0;
  picture = 0;
  see_through = false;
}

-- region 0 shows its cue for 1 s, region 1 for 4 s
abbrev pub epoch : Epoch
epoch = record {
  start = 90000;
  row = 4;
  regions = region_at 0 0 ∷ region_at 1 1 ∷ [];
  colours = [];
  cues = cue_until 0 180000 8 ∷ cue_until 1 450000 9 ∷ [];
}

-- ---- they are valid

-- a relation of each element with each later one
abbrev Pairs : {X : Type 0} → (X → X → Type 0) → List X → Type 0
Pairs R [] = Unit {0}
Pairs R (x ∷ xs) = AllByRecursion (R x) xs × Pairs R xs

pairs : {X : Type 0} (R : X → X → Type 0) (xs : List X) → Pairs R xs → AllPairs R xs
pairs R [] h = λ i j d before inside. absurd (omega (arith, inside))
pairs R (x ∷ xs) h = AllPairs-cons R x xs (All-from_recursion (R x) xs h.0) (pairs R xs h.1)

valid_region : (id row : ℕ) → id ≤ 255 → row + 1 ≤ 2 → IsRegion 1 2 (region_at id row)
valid_region id row small above = record {
  numbers = (small, omega arith);
  wide = omega arith;
  high = omega arith;
  across = omega arith;
  down = above;
}

valid_regions : AreRegions 1 2 epoch.regions
valid_regions = record {
  many = omega arith;
  each = All-from_recursion (IsRegion 1 2) epoch.regions
      (valid_region 0 0 (omega arith) (omega arith), (valid_region 1 1 (omega arith) (omega arith), tt));
  apart = pairs AreSeparate epoch.regions
      ((record { ids = λ same. omega (arith, same); rows = inl (omega arith) }, tt), (tt, tt));
}

tick_is : (tick : ℕ) → tick ≤ 450000 → IsTick 0 tick
tick_is tick early = record { late = omega arith; early = omega (arith, early) }

first_cue : IsCue 0 90000 epoch.regions (picture ∷ []) (cue_until 0 180000 8)
first_cue = record {
  starts = tick_is 90000 (omega arith);
  ends = tick_is 180000 (omega arith);
  within = omega arith;
  lasts = omega arith;
  short = omega arith;
  picture = omega arith;
  region = region_at 0 0;
  found = refl;
  fits = record { across = omega arith; down = omega arith; shallow = omega arith };
}

second_cue : IsCue 0 90000 epoch.regions (picture ∷ []) (cue_until 1 450000 9)
second_cue = record {
  starts = tick_is 90000 (omega arith);
  ends = tick_is 450000 (omega arith);
  within = omega arith;
  lasts = omega arith;
  short = omega arith;
  picture = omega arith;
  region = region_at 1 1;
  found = refl;
  fits = record { across = omega arith; down = omega arith; shallow = omega arith };
}

valid_epoch : IsEpoch 0 1 2 (picture ∷ []) epoch
valid_epoch = record {
  starts = tick_is 90000 (omega arith);
  regions = valid_regions;
  colours = All-nil (IsColourRow 0 90000);
  cues = All-from_recursion (IsCue 0 90000 epoch.regions (picture ∷ [])) epoch.cues (first_cue, (second_cue, tt));
}

valid_picture : IsPicture picture
valid_picture = record {
  wide = (omega arith, omega arith);
  high = (omega arith, omega arith);
  full = refl;
  each = All-from_recursion (λ code. code < code_count Two) (1 ∷ []) (omega arith, tt);
}

same_tick : (tick : ℕ) → AreTicksApart tick tick
same_tick tick = inl refl

before_tick : (first second : ℕ) → first + 3600 < second → AreTicksApart first second
before_tick first second far = inr (inl far)

behind_tick : (first second : ℕ) → second + 3600 < first → AreTicksApart first second
behind_tick first second far = inr (inr far)

ticks_apart : AllPairs AreTicksApart (flat_map ticks_of (epoch ∷ []))
ticks_apart = pairs AreTicksApart (90000 ∷ 90000 ∷ 180000 ∷ 90000 ∷ 450000 ∷ []) (
  (
    same_tick 90000,
    (
      before_tick 90000 180000 (omega arith),
      (same_tick 90000, (before_tick 90000 450000 (omega arith), tt)),
    ),
  ),
  (
    (
      before_tick 90000 180000 (omega arith),
      (same_tick 90000, (before_tick 90000 450000 (omega arith), tt)),
    ),
    (
      (behind_tick 180000 90000 (omega arith), (before_tick 180000 450000 (omega arith), tt)),
      ((before_tick 90000 450000 (omega arith), tt), (tt, tt)),
    ),
  ),
)

pub valid_script : IsSoundScript 0 1 2 180000 (epoch ∷ []) (picture ∷ [])
valid_script = record {
  early = omega arith;
  wide = (omega arith, omega arith);
  high = (omega arith, omega arith);
  seconds = 2;
  whole = refl;
  often = (omega arith, omega arith);
  some_epoch = omega arith;
  few_epochs = omega arith;
  each = All-from_recursion (IsEpoch 0 1 2 (picture ∷ [])) (epoch ∷ []) (valid_epoch, tt);
  follow = pairs Follows (epoch ∷ []) (tt, tt);
  apart = ticks_apart;
  few_colours = omega arith;
  few_cues = omega arith;
  few_pictures = omega arith;
  drawn = All-from_recursion IsPicture (picture ∷ []) (valid_picture, tt);
  small = omega arith;
}

-- ---- the script

-- the page is sent again after 2 s
abbrev pub script : Script
script = record {
  origin = 0;
  width = 1;
  height = 2;
  refresh = 180000;
  epochs = epoch ∷ [];
  pictures = picture ∷ [];
  sound = ∣ valid_script ∣₁;
}
