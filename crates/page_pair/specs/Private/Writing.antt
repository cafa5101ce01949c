-- The segments of a set as they are written one after the other.
use Rattle.std.specs.Prelude.{◌≡◌, ◌<◌, ℕ, Bool, if◌then◌else◌, List, [], ◌∷◌, map, filter, All, ◌++◌}
use Rattle.std.specs.List.{flat_map, list_any}
use Rattle.std.specs.Str.{bytes_eq}
use Rattle.stream_syntax.specs.Segments.{SegmentValue, IsWritable, end_of_set, spelled}
use Rattle.cue_list.specs.declared.epoch.Epoch.{Epoch}
use Rattle.page_epoch.specs.declared.planned_set.SentClut.{SentClut}
use Rattle.set_coder.specs.SetSegments.{clut_segment_of}
use Rattle.shown_plan.specs.NamedSets.{Names}
use Rattle.page_pair.specs.PairSets.{Paged, Side, greatest_of, head_of, is_same_flag, on, own_cluts, paged_bytes, paged_length, pair_size, segments_size, shared_cluts}
use Rattle.sub_base.specs.declared.load.TheConstants.{UNIT_ROOM}
use Rattle.page_pair.specs.declared.pair_set.SetStop.{SetStop}
use Rattle.page_pair.specs.declared.pair_set.SetStop.TheVariants.{Memory, TooLong}
use Rattle.page_pair.specs.declared.pages.TwoPages.{TwoPages}
use Rattle.page_pair.specs.declared.written.Written.{Written}

-- the segment fits its table on its page
abbrev pub CanBeWritten : Paged → Type 0
CanBeWritten segment = IsWritable segment.page segment.value

-- these segments are written, and the longest of them has so many bytes
pub record AreWritten (segments : List Paged) (written : Written) : Type 0 where
  pub fit : All CanBeWritten segments
  pub bytes : written.bytes.items ≡ flat_map paged_bytes segments
  pub longest : written.longest ≡ greatest_of (map paged_length segments)

-- further segments are written behind all that were before
abbrev pub WritesMore : List Paged → Written → Written → Type 0
WritesMore more old new =
    (so_far : List Paged) → AreWritten so_far old → AreWritten (so_far ++ more) new

-- a segment where it is chosen, and else none
abbrev pub when : Bool → SegmentValue → List SegmentValue
when chosen segment = if chosen then segment ∷ [] else []

-- the bytes of a CLUT for page 0
abbrev pub clut_bytes : Epoch → SentClut → List ℕ
clut_bytes epoch sent = spelled 0 (clut_segment_of epoch sent)

-- of the CLUTs those that are among others, or those that are not, by the others' bytes
abbrev pub cluts_by : Bool → List (List ℕ) → Epoch → List SentClut → List SegmentValue
cluts_by shared others epoch cluts =
    filter (λ clut. is_same_flag shared (list_any (bytes_eq (spelled 0 clut)) others))
    (map (clut_segment_of epoch) cluts)

-- the segments before the objects, with these numbers of objects
abbrev pub leading_segments : TwoPages → Names → Names → Side → Side → List Paged
leading_segments pages first second one two =
    map (on pages.first) (head_of first one)
    ++ (map (on pages.second) (head_of second two)
    ++ (map (on pages.first) (own_cluts one two)
    ++ (map (on pages.second) (own_cluts two one)
    ++ map (on pages.shared) (shared_cluts one two))))

-- the objects of a set, and the two ends behind them
abbrev pub behind : TwoPages → List Paged → List Paged
behind pages objects = objects ++ (on pages.first end_of_set ∷ on pages.second end_of_set ∷ [])

-- why the segments of a set are not written: they are too long, and their PES packet would have this size. Memory may
-- want at any time
abbrev pub IsSetStop : List Paged → SetStop → Type 0
IsSetStop segments Memory = Unit {0}
IsSetStop segments (TooLong size) = (UNIT_ROOM < segments_size segments) × (size ≡ pair_size segments)
