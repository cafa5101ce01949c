-- What is used of a script's soundness. A script tells it truncated; all of this is of equations and comparisons, so it
-- is had once for all.
use Rattle.std.proofs.Common.{◌≡◌, ◌≢◌, ◌⊎◌, inl, inr, ℕ, ◌+◌, ◌*◌, ◌/◌, ◌<◌, ◌≤◌, Bool, true, false, List, get_or, refl, sym, subst, arith}
use Rattle.std.specs.Prelude.{All}
use Rattle.std.specs.List.{AllPairs}
use Rattle.std.proofs.Math.Logic.{∥∥₁_elim}
use Rattle.std.proofs.Props.{props}
use Rattle.std.proofs.lemmas.Bool.Decides.{nat_tests}
use Rattle.sub_base.specs.Depth.{code_count}
use Rattle.sub_base.specs.Picture.{Picture, IsPicture}
use Rattle.cue_list.specs.Authored.{lies_in, picture_at_place}
use Rattle.cue_list.specs.Sound.{IsSoundScript, IsEpoch, IsRegion, IsCue, FitsRegion, Follows, AreSeparate, ticks_of}
use Rattle.cue_records.specs.declared.row_values.ColourRow.{ColourRow}
use Rattle.cue_list.specs.declared.epoch.Cue.{Cue}
use Rattle.cue_list.specs.declared.epoch.Epoch.{Epoch}
use Rattle.cue_records.specs.declared.region.Region.{Region}
use Rattle.cue_list.specs.declared.script.Script.{Script}
use Rattle.page_epoch.proofs.SoundLaws.{epoch_ticks, plain}
use Rattle.page_epoch.specs.Sendable.{HasRegion}
use Rattle.page_epoch.specs.EpochWalks.{IsPlain}
use Rattle.set_coder.specs.SetSegments.{epoch_region}

-- a cue: it lies in a region of its epoch, from the epoch's start on
pub record IsFairCue (pictures : List Picture) (epoch : Epoch) (cue : Cue) : Type 0 where
  pub within : epoch.start ≤ cue.start
  pub lasts : cue.start < cue.end
  pub region : HasRegion epoch cue.region
  pub fits : FitsRegion (epoch_region epoch cue.region) cue.x cue.y (picture_at_place pictures cue.picture)
  pub drawn : IsPicture (picture_at_place pictures cue.picture)

-- an epoch of a display: its regions have their own ids and no place of the display in common, its colour rows have
-- numbers that their depths have, and its ticks are from its start on
pub record IsFairEpoch (width height : ℕ) (pictures : List Picture) (epoch : Epoch) : Type 0 where
  pub regions : All (IsRegion width height) epoch.regions
  pub apart : AllPairs (λ (first second : Region). first.id ≢ second.id) epoch.regions
  pub rows : AllPairs
      (λ (first second : Region). (x y : ℕ) → lies_in x y first ≡ true → lies_in x y second ≡ false)
      epoch.regions
  pub cluts : All (λ (row : ColourRow). row.clut < 256) epoch.colours
  pub entries : All (λ (row : ColourRow). row.entry < code_count row.depth) epoch.colours
  pub cues : All (IsFairCue pictures epoch) epoch.cues
  pub from : All (λ tick. epoch.start ≤ tick) (ticks_of epoch)

-- a script
pub record IsFair (script : Script) : Type 0 where
  pub plain : IsPlain script.epochs script.refresh
  pub whole : script.refresh ≡ 90000 * (script.refresh / 90000)
  pub often : 90000 ≤ script.refresh
  pub rare : script.refresh ≤ 5400000
  pub epochs : All (IsFairEpoch script.width script.height script.pictures) script.epochs
  pub follow : AllPairs Follows script.epochs

-- ---- from soundness

-- a place in one of two regions that share no row lies not in the other
not_both : (first second : Region) → AreSeparate first second → (x y : ℕ) → lies_in x y first ≡ true
    → lies_in x y second ≡ false
not_both first second apart x y inside = by (lies_in x y second) refl apart.rows
  where
    by : (b : Bool) → lies_in x y second ≡ b → (first.y + first.height ≤ second.y)
        ⊎ (second.y + second.height ≤ first.y) → lies_in x y second ≡ false
    by false e rows = e
    by true e (inl above) =
        absurd (let low : y < first.y + first.height = grind (arith, nat_tests) in let high : second.y
        ≤ y = grind (arith, nat_tests) in omega (arith, low, high, above))
    by true e (inr below) =
        absurd (let low : first.y ≤ y = grind (arith, nat_tests) in let high : y
        < second.y + second.height = grind (arith, nat_tests) in omega (arith, low, high, below))

fair_cue : (origin : ℕ) (pictures : List Picture) (epoch : Epoch) (cue : Cue) → All IsPicture pictures
    → IsCue origin epoch.start epoch.regions pictures cue → IsFairCue pictures epoch cue
fair_cue origin pictures epoch cue drawn is =
    record {
      within = is.within;
      lasts = is.lasts;
      region = rw is.found refl;
      fits =
          subst (λ (region : Region). FitsRegion region cue.x cue.y (picture_at_place pictures cue.picture))
          (sym (rw is.found refl)) is.fits;
      drawn = drawn cue.picture _ is.picture;
    }

fair_epoch : (origin width height : ℕ) (pictures : List Picture) (epoch : Epoch) → All IsPicture pictures
    → IsEpoch origin width height pictures epoch → IsFairEpoch width height pictures epoch
fair_epoch origin width height pictures epoch drawn is =
    record {
      regions = is.regions.each;
      apart = λ i j d before within. (is.regions.apart i j d before within).ids;
      rows =
          λ i j d before within x y inside. not_both (get_or epoch.regions i d) (get_or epoch.regions j d)
          (is.regions.apart i j d before within) x y inside;
      cluts = λ k d within. (let most = (is.colours k d within).clut in omega (arith, most));
      entries = λ k d within. (is.colours k d within).entry;
      cues = λ k d within. fair_cue origin pictures epoch (get_or epoch.cues k d) drawn (is.cues k d within);
      from =
          epoch_ticks (λ tick. epoch.start ≤ tick) epoch (omega arith)
          (λ k d within. (is.colours k d within).within)
          (λ k d within. (let begins = (is.cues k d within).within in let lasts = (is.cues k d within).lasts in
          (begins, omega (arith, begins, lasts))));
    }

fair_from : (script : Script)
    → IsSoundScript script.origin script.width script.height script.refresh script.epochs script.pictures
    → IsFair script
fair_from script sound =
    record {
      plain = plain script.origin script.width script.height script.refresh script.epochs script.pictures script.sound;
      whole = (let is = sound.whole in omega (arith, is));
      often = (let is = sound.whole in let some = sound.often in omega (arith, is, some.0));
      rare = (let is = sound.whole in let most = sound.often in omega (arith, is, most.1));
      epochs =
          λ k d within. fair_epoch script.origin script.width script.height script.pictures (get_or script.epochs k d)
          sound.drawn (sound.each k d within);
      follow = sound.follow;
    }

fair_prop : (script : Script) → IsProp (IsFair script)
fair_prop script = hlevel props

-- each script is fair
pub fair : (script : Script) → IsFair script
fair script = ∥∥₁_elim script.sound (fair_prop script) (fair_from script)
