-- Regions that the page of a display set does not list. Two receivers may differ in one, until a set shows it again,
-- which draws it anew for both. So it is with the sets of a plan.
use Rattle.std.specs.Prelude.{◌≡◌, ◌≢◌, ℕ, ◌≤◌, Bool, true, false, ◌==◌, List, [], ◌∷◌, map, take, drop, reverse, Some, slice_get}
use Rattle.std.specs.List.{AllZip, list_any}
use Rattle.cue_list.specs.declared.epoch.Epoch.{Epoch}
use Rattle.cue_records.specs.declared.region.Region.{Region}
use Rattle.cue_list.specs.declared.script.Script.{Script}
use Rattle.page_epoch.specs.Live.{live_places}
use Rattle.page_epoch.specs.Plan.{IsPlan}
use Rattle.page_epoch.specs.SentRegions.{filled, sent_region}
use Rattle.page_epoch.specs.declared.planned_set.PlannedSet.{PlannedSet}
use Rattle.set_coder.specs.SetSegments.{AreSetSegments}
use Rattle.stream_syntax.specs.Segments.{Page, SegmentValue, spelled}
use Rattle.stream_syntax.specs.declared.page.PageEntry.{PageEntry}
use Rattle.stream_syntax.specs.declared.page.State.TheVariants.{Acquisition}
use Rattle.sub_base.specs.declared.profile.Profile.{Profile}
use Rattle.decoder_model.specs.Contents.{page_in_set}
use Rattle.decoder_model.specs.Kept.{epoch_of}
use Rattle.decoder_model.specs.Pixels.{pixel_of}
use Rattle.decoder_model.specs.Readings.{Content, AreReadings, read}
use Rattle.decoder_model.specs.Taken.{Taken, has_new_version, version_of_region as known_version, segments_of, taken_of, taken_region}

-- a region is drawn anew: the set at a tick sends it with a fill and with all of its live cues, in a version that a
-- receiver with these taken segments takes
pub record IsDrawnAnew (epoch : Epoch) (whole : Bool) (seen : List ℕ) (tick : ℕ) (taken : Taken)
    (region : Region) : Type 0 where
  pub version : ℕ
  pub sent : sent_region epoch.cues whole (tick ∷ seen) region.id
      ≡ filled region.id version (live_places epoch.cues region.id tick) ∷ []
  pub takes : has_new_version version (known_version (taken_region region.id taken)) ≡ true

-- two receivers know the epoch, by the same set last, whose page does not list a region; they know the region in one
-- version, and have different codes at one of its places
pub record AreHiddenOtherwise (first second : List (List Content)) (set : List Content)
    (region x y : ℕ) : Type 0 where
  pub knows_first : epoch_of (set ∷ first) ≡ Some (set ∷ first)
  pub knows_second : epoch_of (set ∷ second) ≡ Some (set ∷ second)
  pub page : Page
  pub is_page : page_in_set set ≡ Some page
  pub hidden : list_any (λ (entry : PageEntry). entry.region == region) page.entries ≡ false
  pub version : ℕ
  pub version_first : known_version (taken_region region (taken_of (segments_of (set ∷ first)))) ≡ Some version
  pub version_second : known_version (taken_region region (taken_of (segments_of (set ∷ second)))) ≡ Some version
  pub differ : pixel_of (taken_of (segments_of (set ∷ first))) region x y ≢ pixel_of
      (taken_of (segments_of (set ∷ second))) region x y

-- ---- sets of a plan

-- what is read of a set of the script that is sent on that page
pub record IsSaid (script : Script) (page : ℕ) (set : PlannedSet) (contents : List Content) : Type 0 where
  pub segments : List SegmentValue
  pub are : AreSetSegments script page set segments
  pub read_as : AreReadings (map (spelled page) segments) (map read contents)

-- one receiver has received all sets of a plan up to one of them, another one those from an acquisition point on; they
-- differ in a region that the page of that last set does not list
pub record DifferWhereHidden (script : Script) (page : ℕ) (sets : List PlannedSet) : Type 0 where
  pub contents : List (List Content)
  pub said : AllZip (IsSaid script page) sets contents
  pub last : ℕ
  pub last_set : List Content
  pub is_last : slice_get contents last ≡ Some last_set
  pub entry : ℕ
  pub later : entry ≤ last
  pub entry_set : PlannedSet
  pub is_entry : slice_get sets entry ≡ Some entry_set
  pub acquisition : entry_set.state ≡ Acquisition
  pub region : ℕ
  pub x : ℕ
  pub y : ℕ
  pub otherwise : AreHiddenOtherwise (reverse (take last contents)) (reverse (drop entry (take last contents)))
      last_set region x y

-- a script with a plan whose sets leave two receivers so
pub record IsHiddenExample (profile : Profile) : Type 0 where
  pub script : Script
  pub sets : List PlannedSet
  pub plan : IsPlan script profile sets
  pub page : ℕ
  pub differ : DifferWhereHidden script page sets
