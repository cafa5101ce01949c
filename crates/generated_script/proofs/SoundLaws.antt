-- What is generated passes the tests of a script's records.
use Rattle.std.proofs.Common.{◌≡◌, ◌⊎◌, inl, inr, ℕ, zero, suc, ◌+◌, ◌*◌, ◌/◌, ◌%◌, ◌==◌, ◌<◌, ◌≤◌, min, List, [], ◌∷◌, map, length, get_or, find, All, Some, sym, ap, subst, refl, arith}
use Rattle.std.specs.List.{range_with_len, AllPairs, AllZip}
use Rattle.std.proofs.lemmas.List.Elements.{All-nil, All-cons, All-map}
use Rattle.std.proofs.lemmas.List.FromFn.{length-map-range_with_len, get_or-map-range_with_len}
use Rattle.std.proofs.lemmas.List.Sums.{sum_by-le}
use Rattle.sub_base.specs.declared.depth.Depth.TheVariants.{Four}
use Rattle.sub_base.specs.Picture.{Picture, IsPicture}
use Rattle.cue_records.specs.declared.row_values.ColourRow.{ColourRow}
use Rattle.cue_list.specs.declared.epoch.Cue.{Cue}
use Rattle.cue_list.specs.declared.epoch.Epoch.{Epoch}
use Rattle.cue_records.specs.declared.region.Region.{Region}
use Rattle.cue_list.specs.Authored.{picture_at_place}
use Rattle.cue_list.specs.Sound.{IsRegion, AreSeparate, AreRegions, IsColourRow, FitsRegion, IsCue, IsEpoch, Follows, IsSoundScript}
use Rattle.generated_script.specs.Generated.{generated_picture, generated_start, generated_length, generated_region, IsGeneratedEpoch}
use Rattle.generated_script.proofs.ListLaws.{item_count}
use Rattle.generated_script.proofs.PictureLaws.{picture_made}
use Rattle.generated_script.proofs.TickLaws.{cue_of, cue_count, epoch_at, end_within, lasts, ticks_apart, ticks_generated}

-- ---- regions

first_region : IsRegion 320 180 (generated_region 0)
first_region =
    record {
      numbers = (omega arith, omega arith);
      wide = omega arith;
      high = omega arith;
      across = omega arith;
      down = omega arith;
    }

second_region : IsRegion 320 180 (generated_region 1)
second_region =
    record {
      numbers = (omega arith, omega arith);
      wide = omega arith;
      high = omega arith;
      across = omega arith;
      down = omega arith;
    }

apart : AllPairs AreSeparate (generated_region 0 ∷ generated_region 1 ∷ [])
apart zero zero d low high = absurd (omega arith)
apart zero (suc zero) d low high = record { ids = λ e. omega arith; rows = inl (omega arith) }
apart zero (suc (suc j)) d low high = absurd (omega arith)
apart (suc i) j d low high = absurd (omega arith)

regions_right : AreRegions 320 180 (generated_region 0 ∷ generated_region 1 ∷ [])
regions_right = record {
  many = omega arith;
  each =
      All-cons (IsRegion 320 180) (generated_region 0) (generated_region 1 ∷ []) first_region
      (All-cons (IsRegion 320 180) (generated_region 1) [] second_region (All-nil (IsRegion 320 180)));
  apart = apart;
}

-- ---- cues

-- the region of a cue, and what fits it
record HasRegion (id : ℕ) : Type 0 where
  region : Region
  found : find (λ (region : Region). region.id == id) (generated_region 0 ∷ generated_region 1 ∷ [])
      ≡ Some region
  sides : (region.width ≡ 96) × (region.height ≡ 48)
  depth : region.depth ≡ Four

region_by : (id : ℕ) → (id ≡ 0) ⊎ (id ≡ 1) → HasRegion id
region_by id (inl e) =
    subst HasRegion (sym e) (record { region = generated_region 0; found = refl; sides = (refl, refl); depth = refl })
region_by id (inr e) =
    subst HasRegion (sym e) (record { region = generated_region 1; found = refl; sides = (refl, refl); depth = refl })

two_cases : (k : ℕ) → (k % 2 ≡ 0) ⊎ (k % 2 ≡ 1)
two_cases k = grind arith

-- the pictures of a script of so many cues
abbrev pub pictures_of : ℕ → List Picture
pictures_of number = map generated_picture (range_with_len 0 (min number 16))

pub picture_count : (number : ℕ) → length (pictures_of number) ≡ min number 16
picture_count number = length-map-range_with_len generated_picture 0 (min number 16)

picture_there : (number j : ℕ) → j < min number 16
    → picture_at_place (pictures_of number) j ≡ generated_picture j
picture_there number j h = get_or-map-range_with_len generated_picture 0 (min number 16) j j _ h (omega arith)

-- cue k, from that record
abbrev cue_with : ℕ → ℕ → Cue
cue_with k row = record {
  start = generated_start k;
  end = generated_start k + generated_length k;
  row = row;
  region = k % 2;
  x = 5 * k % 32;
  y = 3 * k % 16;
  picture = k % 16;
  see_through = k % 4 == 3;
}

fits : (region : Region) (x y j : ℕ) → (region.width ≡ 96) × (region.height ≡ 48) → region.depth ≡ Four
    → x < 32 → y < 16 → FitsRegion region x y (generated_picture j)
fits region x y j sides depth a b =
    let wide = sides.0 in
    let high = sides.1 in
    record { across = omega arith; down = omega arith; shallow = rw depth (omega arith) }

cue_right : (number e place row : ℕ) → 16 * e + place < number → place < 16 → number ≤ 500 →
    IsCue 0 (180000 + 1440000 * e) (generated_region 0 ∷ generated_region 1 ∷ []) (pictures_of number)
    (cue_with (16 * e + place) row)
cue_right number e place row there h few =
    let long = lasts (16 * e + place) in
    let least = long.0 in
    let most = long.1 in
    let own = region_by ((16 * e + place) % 2) (two_cases (16 * e + place)) in
    let count = picture_count number in
    let short : (16 * e + place) % 16 < min number 16 = omega arith in
    record {
      starts = record { late = omega arith; early = omega arith };
      ends = record { late = omega arith; early = omega arith };
      within = omega arith;
      lasts = omega arith;
      short = omega arith;
      picture = omega arith;
      region = own.region;
      found = own.found;
      fits =
          subst (FitsRegion own.region (5 * (16 * e + place) % 32) (3 * (16 * e + place) % 16))
          (sym (picture_there number ((16 * e + place) % 16) short))
          (fits own.region (5 * (16 * e + place) % 32) (3 * (16 * e + place) % 16) ((16 * e + place) % 16) own.sides
          own.depth (omega arith) (omega arith));
    }

-- ---- epochs

epoch_right : (number e : ℕ) (epoch : Epoch) → number ≤ 500 → e < 32 → IsGeneratedEpoch number e epoch
    → IsEpoch 0 320 180 (pictures_of number) epoch
epoch_right number e epoch few low is =
    let start = is.start in
    let count = cue_count number e epoch is in
    record {
      starts = record { late = omega arith; early = omega arith };
      regions = subst (AreRegions 320 180) (sym is.regions) regions_right;
      colours = subst (All (IsColourRow 0 epoch.start)) (sym is.colours) (All-nil (IsColourRow 0 epoch.start));
      cues = λ place other h.
          let here = cue_right number e place (get_or epoch.cues place other).row (omega arith) (omega arith) few in
          subst (λ (t : ℕ). IsCue 0 t epoch.regions (pictures_of number) (get_or epoch.cues place other)) (sym start)
          (subst (λ (rs : List Region). IsCue 0 (180000 + 1440000 * e) rs (pictures_of number)
          (get_or epoch.cues place other)) (sym is.regions)
          (subst (IsCue 0 (180000 + 1440000 * e) (generated_region 0 ∷ generated_region 1 ∷ [])
          (pictures_of number)) (sym (cue_of number e epoch is place other h)) here));
    }

follows : (number e f : ℕ) (earlier later : Epoch) → e < f → IsGeneratedEpoch number e earlier
    → IsGeneratedEpoch number f later → Follows earlier later
follows number e f earlier later less is also =
    let first = is.start in
    let second = also.start in
    let count = cue_count number e earlier is in
    record {
      starts = omega arith;
      colours =
          subst (All (λ (row : ColourRow). row.tick < later.start)) (sym is.colours)
          (All-nil (λ (row : ColourRow). row.tick < later.start));
      cues = λ place other h.
          let end = ap (λ (cue : Cue). cue.end) (cue_of number e earlier is place other h) in
          let within = end_within e place (omega arith) in
          omega arith;
    }

-- ---- the whole script

pub sound : (number : ℕ) (epochs : List Epoch) (pictures : List Picture) → 1 ≤ number → number ≤ 500
    → AllZip (IsGeneratedEpoch number) (range_with_len 0 ((number + 15) / 16)) epochs
    → pictures ≡ pictures_of number → IsSoundScript 0 320 180 450000 epochs pictures
sound number epochs pictures some few are drawn = subst (IsSoundScript 0 320 180 450000 epochs) (sym drawn) made
  where
    made : IsSoundScript 0 320 180 450000 epochs (pictures_of number)
    made =
        let count = item_count (IsGeneratedEpoch number) 0 ((number + 15) / 16) epochs are in
        let ticks = ticks_generated number epochs are in
        let none =
        sum_by-le (λ (epoch : Epoch). length epoch.colours) 0 epochs
        (λ i d h. let empty = ap length (epoch_at number epochs i d are h).colours in omega arith) in
        let cues =
        sum_by-le (λ (epoch : Epoch). length epoch.cues) 16 epochs
        (λ i d h. let long = cue_count number i (get_or epochs i d) (epoch_at number epochs i d are h) in omega
        arith) in
        let long = picture_count number in
        let codes = sum_by-le (λ (picture : Picture). picture.width * picture.height) 2048 (pictures_of number)
        (All-map (λ (picture : Picture). picture.width * picture.height ≤ 2048) generated_picture
        (range_with_len 0 (min number 16)) (λ i d h. omega arith)) in
        record {
          early = omega arith;
          wide = (omega arith, omega arith);
          high = (omega arith, omega arith);
          seconds = 5;
          whole = refl;
          often = (omega arith, omega arith);
          some_epoch = omega arith;
          few_epochs = omega arith;
          each =
              λ i d h. epoch_right number i (get_or epochs i d) few (omega arith) (epoch_at number epochs i d are h);
          follow =
              λ i j d less h. follows number i j (get_or epochs i d) (get_or epochs j d) less
              (epoch_at number epochs i d are (omega arith)) (epoch_at number epochs j d are h);
          apart = λ i j d less h. ticks_apart _ _ (ticks i d (omega arith)) (ticks j d h);
          few_colours = omega arith;
          few_cues = omega arith;
          few_pictures = omega arith;
          drawn =
              All-map IsPicture generated_picture (range_with_len 0 (min number 16))
              (λ i d h. picture_made (get_or (range_with_len 0 (min number 16)) i d));
          small = omega arith;
        }
