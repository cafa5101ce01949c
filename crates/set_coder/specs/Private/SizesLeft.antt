-- Segments of a set that are not measured yet.
use Rattle.std.specs.Prelude.{◌≡◌, ℕ, ◌+◌, ◌≤◌, List, ◌∷◌, ◌++◌, length, map, All, IfSome, option_to_list}
use Rattle.pes_packets.specs.Units.{IsSegmentLength}
use Rattle.cue_records.specs.declared.limits.TheConstants.{MOST_COLOURS, MOST_CUES}
use Rattle.page_epoch.specs.Sendable.{HasCue}
use Rattle.set_coder.specs.KeptBlocks.{AreCoded}
use Rattle.set_coder.specs.SetSizes.{region_size, clut_size, AreObjectSizes}
use Rattle.set_coder.specs.Usable.{AreDrawable}
use Rattle.set_coder.specs.declared.segment_sizes.SegmentSizes.{SegmentSizes}

-- the sizes of the segments that are left, in their order
pub record AreSizesLeft (left : SegmentSizes) (sizes : List ℕ) : Type 0 where
  pub objects : List ℕ
  pub coded : AreObjectSizes left.script.now.pictures left.epoch.now left.cues.now objects
  pub whole : sizes ≡ option_to_list left.display
      ++ (option_to_list left.page
      ++ (map region_size left.regions.now ++ (map clut_size left.cluts.now ++ (objects ++ option_to_list left.end))))

-- how many they are
abbrev pub segments_left : SegmentSizes → ℕ
segments_left left =
    length (option_to_list left.display) + length (option_to_list left.page) + length left.regions.now
    + length left.cluts.now + length left.cues.now + length (option_to_list left.end)

-- they can be measured: what is kept is right, and what they name is there
pub record IsMeasurable (left : SegmentSizes) : Type 0 where
  pub kept : AreCoded left.script.now.pictures left.kept.now.coded.now
  pub drawable : AreDrawable left.script.now.pictures left.epoch.now
  pub display : IfSome left.display IsSegmentLength
  pub page : IfSome left.page IsSegmentLength
  pub regions : All (λ sent. length sent.cues ≤ MOST_CUES) left.regions.now
  pub cluts : All (λ sent. length sent.rows ≤ MOST_COLOURS) left.cluts.now
  pub cues : All (HasCue left.epoch.now) left.cues.now
  pub end : IfSome left.end IsSegmentLength

-- the first of them has this size, and those behind it are left
pub record IsNextSize (old new : SegmentSizes) (size : ℕ) : Type 0 where
  pub fits : IsSegmentLength size
  pub measurable : IsMeasurable new
  pub first : (sizes : List ℕ) → AreSizesLeft new sizes → AreSizesLeft old (size ∷ sizes)
  pub fewer : segments_left new + 1 ≡ segments_left old
