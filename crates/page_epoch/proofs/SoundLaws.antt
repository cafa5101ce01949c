-- What the walk relies on holds of every script.
use Rattle.std.proofs.Common.{◌≡◌, ◌∙◌, ◌⊎◌, inl, inr, ℕ, ◌<◌, ◌≤◌, ◌^◌, List, [], ◌∷◌, ◌++◌, map, length, get_or, All, Some, ap, arith}
use Rattle.std.specs.Prelude.{slice_get}
use Rattle.std.specs.List.{flat_map, AllPairs}
use Rattle.std.proofs.Props.{props}
use Rattle.std.proofs.Math.Logic.{∥∥₁_elim}
use Rattle.std.proofs.lemmas.List.Elements.{All-cons, All-head, All-tail, All-append, All-map, All-weaker}
use Rattle.std.proofs.lemmas.List.Sums.{get_or-le-sum_by}
use Rattle.std.proofs.lemmas.Option.{get_or_from_slice_get}
use Rattle.sub_base.specs.Picture.{Picture}
use Rattle.cue_records.specs.declared.limits.TheConstants.{LATEST_ORIGIN}
use Rattle.cue_list.specs.declared.epoch.Epoch.{Epoch}
use Rattle.cue_records.specs.declared.region.Region.{Region}
use Rattle.cue_records.specs.declared.row_values.ColourRow.{ColourRow}
use Rattle.cue_list.specs.declared.epoch.Cue.{Cue}
use Rattle.cue_list.specs.Sound.{IsSoundScript, IsEpoch, IsRegion, IsColourRow, IsCue, ticks_of, ticks_of_cue}
use Rattle.page_epoch.specs.Instants.{named_ticks}
use Rattle.page_epoch.specs.EpochWalks.{IsPlain}

cue_ticks : (P : ℕ → Type 0) (cues : List Cue) → All (λ (cue : Cue). P cue.start × P cue.end) cues
    → All P (flat_map ticks_of_cue cues)
cue_ticks P [] all = λ k d h. absurd (omega arith)
cue_ticks P (cue ∷ cues) all =
    let here = All-head (λ (cue : Cue). P cue.start × P cue.end) cue cues all in
    All-cons P cue.start (cue.end ∷ flat_map ticks_of_cue cues) here.0
    (All-cons P cue.end (flat_map ticks_of_cue cues) here.1
    (cue_ticks P cues (All-tail (λ (cue : Cue). P cue.start × P cue.end) cue cues all)))

pub epoch_ticks : (P : ℕ → Type 0) (epoch : Epoch) → P epoch.start
    → All (λ (row : ColourRow). P row.tick) epoch.colours
    → All (λ (cue : Cue). P cue.start × P cue.end) epoch.cues → All P (ticks_of epoch)
epoch_ticks P epoch start rows cues =
    All-cons P epoch.start (map (λ (row : ColourRow). row.tick) epoch.colours ++ flat_map ticks_of_cue epoch.cues)
    start
    (All-append P (map (λ (row : ColourRow). row.tick) epoch.colours) (flat_map ticks_of_cue epoch.cues)
    (All-map P (λ (row : ColourRow). row.tick) epoch.colours rows) (cue_ticks P epoch.cues cues))

pub all_ticks : (P : ℕ → Type 0) (epochs : List Epoch) → All (λ (epoch : Epoch). All P (ticks_of epoch)) epochs
    → All P (named_ticks epochs)
all_ticks P [] all = λ k d h. absurd (omega arith)
all_ticks P (epoch ∷ epochs) all =
    All-append P (ticks_of epoch) (named_ticks epochs)
    (All-head (λ (epoch : Epoch). All P (ticks_of epoch)) epoch epochs all)
    (all_ticks P epochs (All-tail (λ (epoch : Epoch). All P (ticks_of epoch)) epoch epochs all))

early_epoch : (origin width height : ℕ) (pictures : List Picture) (epoch : Epoch) → origin ≤ LATEST_ORIGIN
    → IsEpoch origin width height pictures epoch → All (λ (t : ℕ). t < 2 ^ 34) (ticks_of epoch)
early_epoch origin width height pictures epoch low is =
    let start = is.starts.early in
    epoch_ticks (λ (t : ℕ). t < 2 ^ 34) epoch (omega arith)
    (All-weaker (IsColourRow origin epoch.start) (λ (row : ColourRow). row.tick < 2 ^ 34)
    (λ row good. let early = good.tick.early in omega arith) epoch.colours is.colours)
    (All-weaker (IsCue origin epoch.start epoch.regions pictures)
    (λ (cue : Cue). (cue.start < 2 ^ 34) × (cue.end < 2 ^ 34))
    (λ cue good. let first = good.starts.early in let last = good.ends.early in (omega arith, omega arith))
    epoch.cues is.cues)

late_epoch : (origin width height : ℕ) (pictures : List Picture) (epoch : Epoch) (start : ℕ)
    → start ≤ epoch.start → IsEpoch origin width height pictures epoch
    → All (λ (t : ℕ). start ≤ t) (ticks_of epoch)
late_epoch origin width height pictures epoch start low is =
    epoch_ticks (λ (t : ℕ). start ≤ t) epoch low
    (All-weaker (IsColourRow origin epoch.start) (λ (row : ColourRow). start ≤ row.tick)
    (λ row good. let late = good.within in omega arith) epoch.colours is.colours)
    (All-weaker (IsCue origin epoch.start epoch.regions pictures)
    (λ (cue : Cue). (start ≤ cue.start) × (start ≤ cue.end))
    (λ cue good. let late = good.within in let lasts = good.lasts in (omega arith, omega arith)) epoch.cues
    is.cues)

start_from : (epochs : List Epoch) (first : Epoch) (k : ℕ) (d : Epoch) → slice_get epochs 0 ≡ Some first
    → AllPairs (λ (a b : Epoch). a.start < b.start) epochs → k < length epochs → (k ≡ 0) ⊎ (0 < k)
    → first.start ≤ (get_or epochs k d).start
start_from epochs first k d found rise h (inl e) =
    let same = get_or_from_slice_get epochs 0 first d found in
    let here : get_or epochs k d ≡ first = ap (λ (j : ℕ). get_or epochs j d) e ∙ same in
    let start = ap (λ (x : Epoch). x.start) here in
    omega arith
start_from epochs first k d found rise h (inr some) =
    let same = ap (λ (x : Epoch). x.start) (get_or_from_slice_get epochs 0 first d found) in
    let less = rise 0 k d some h in
    omega arith

plain_from : (origin width height refresh : ℕ) (epochs : List Epoch) (pictures : List Picture)
    → IsSoundScript origin width height refresh epochs pictures → IsPlain epochs refresh
plain_from origin width height refresh epochs pictures sound =
    let rise : AllPairs (λ (a b : Epoch). a.start < b.start) epochs =
    λ i j d h short. (sound.follow i j d h short).starts in
    let whole = sound.whole in
    let often = sound.often in
    record {
      some = sound.some_epoch;
      few = sound.few_epochs;
      often = let low = often.0 in omega arith;
      rare = let high = often.1 in omega arith;
      small = λ k d h. record {
        regions = (sound.each k d h).regions.many;
        colours =
            let here = get_or-le-sum_by (λ (epoch : Epoch). length epoch.colours) epochs k d h in
            let all = sound.few_colours in omega arith;
        cues =
            let here = get_or-le-sum_by (λ (epoch : Epoch). length epoch.cues) epochs k d h in let all = sound.few_cues
            in omega arith;
      };
      numbered = λ k d h. record {
        bytes =
            All-weaker (IsRegion width height) (λ (region : Region). region.id ≤ 255)
            (λ region good. good.numbers.0) (get_or epochs k d).regions (sound.each k d h).regions.each;
        apart = λ i j e inside short. ((sound.each k d h).regions.apart i j e inside short).ids;
      };
      rise = rise;
      early =
          all_ticks (λ (t : ℕ). t < 2 ^ 34) epochs
          (λ k d h. early_epoch origin width height pictures (get_or epochs k d) sound.early (sound.each k d h));
      lasting = λ k d h.
          All-weaker (IsCue origin (get_or epochs k d).start (get_or epochs k d).regions pictures)
          (λ (cue : Cue). cue.start < cue.end) (λ cue good. good.lasts) (get_or epochs k d).cues
          (sound.each k d h).cues;
      begin =
          λ first found. all_ticks (λ (t : ℕ). first.start ≤ t) epochs
          (λ k d h. late_epoch origin width height pictures (get_or epochs k d) first.start
          (start_from epochs first k d found rise h (grind arith)) (sound.each k d h));
    }

plain_prop : (epochs : List Epoch) (refresh : ℕ) → IsProp (IsPlain epochs refresh)
plain_prop epochs refresh = hlevel props

pub plain : (origin width height refresh : ℕ) (epochs : List Epoch) (pictures : List Picture)
    → ∥ IsSoundScript origin width height refresh epochs pictures ∥₁ → IsPlain epochs refresh
plain origin width height refresh epochs pictures sound =
    ∥∥₁_elim sound (plain_prop epochs refresh) (plain_from origin width height refresh epochs pictures)
