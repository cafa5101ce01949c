-- The set of two languages: what is sent of the two sets that stand at one place of two plans, on the composition pages
-- of the two languages and on the ancillary page that both use (EN 300 743, clauses 5.1 and 7.2).
use Rattle.std.specs.Prelude.{◌≡◌, ℕ, ◌+◌, ◌==◌, ◌&&◌, not, Bool, true, false, if◌then◌else◌, List, [], ◌∷◌, ◌++◌, map, filter, max, sum_by, Option, Some, None, slice_get, unwrap_or}
use Rattle.std.specs.List.{list_any}
use Rattle.std.specs.Option.{option_map}
use Rattle.std.specs.Str.{bytes_eq}
use Rattle.stream_syntax.specs.Segments.{SegmentValue, end_of_set, spelled}
use Rattle.segments.specs.Sizes.{size_of}
use Rattle.pes_packets.specs.declared.units.TheConstants.{OTHER_BYTES}
use Rattle.cue_list.specs.declared.epoch.Epoch.{Epoch}
use Rattle.cue_list.specs.declared.script.Script.{Script}
use Rattle.page_epoch.specs.declared.planned_set.PlannedSet.{PlannedSet}
use Rattle.set_coder.specs.SetSegments.{display_segments, page_segment, clut_segment_of, AreObjectsOf, object_segment}
use Rattle.slot_stream.specs.SlotStream.{place_from}
use Rattle.shown_plan.specs.NamedSets.{Names, named_region}
use Rattle.sent_sets.specs.RawSets.{RawSet}
use Rattle.page_pair.specs.declared.pages.TwoPages.{TwoPages}

-- ---- segments on pages

-- a segment, and the page that it is sent on
pub record Paged : Type 0 where
  pub page : ℕ
  pub value : SegmentValue

-- a segment that is sent on the page of that number
abbrev pub on : ℕ → SegmentValue → Paged
on number segment = record { page = number; value = segment }

-- the bytes of such a segment, with its head
abbrev pub paged_bytes : Paged → List ℕ
paged_bytes one = spelled one.page one.value

-- how many bytes such a segment has, by its kind: an object whose blocks are too long to be written is counted all
-- the same
abbrev pub paged_length : Paged → ℕ
paged_length one = size_of one.value

-- ---- what is shared

-- two segments are equal but for the page
abbrev pub is_same_segment : SegmentValue → SegmentValue → Bool
is_same_segment one two = bytes_eq (spelled 0 one) (spelled 0 two)

-- the object of a cue of a set: the cue's place in its epoch, and what is sent of its picture
pub record CueObject : Type 0 where
  pub cue : ℕ
  pub see_through : Bool
  pub top : List ℕ
  pub bottom : List ℕ

-- two flags are both set, or both are not
abbrev pub is_same_flag : Bool → Bool → Bool
is_same_flag true other = other
is_same_flag false other = not other

-- two objects are equal but for the page and the object's number
abbrev pub is_same_object : CueObject → CueObject → Bool
is_same_object one two =
    is_same_flag one.see_through two.see_through && (bytes_eq one.top two.top && bytes_eq one.bottom two.bottom)

-- the cue of the first object that passes a test, and the objects behind it
abbrev pub first_and_rest : (CueObject → Bool) → List CueObject → Option (ℕ × List CueObject)
first_and_rest test [] = None
first_and_rest test (one ∷ more) = if test one then Some (one.cue, more) else first_and_rest test more

-- an object of the second language is shared with what was found for it among those of the first, and the objects
-- behind it are looked for behind that; where nothing was found, it is not shared
abbrev pub with_found : (List CueObject → List (ℕ × ℕ)) → List CueObject → ℕ → Option (ℕ × List CueObject)
    → List (ℕ × ℕ)
with_found behind one cue None = behind one
with_found behind one cue (Some found) = (found.0, cue) ∷ behind found.1

-- the cues of the first and of the second language whose objects are shared, in order: each object of the second with
-- the first equal one of the first language behind all that are shared so far
abbrev pub shared_objects : List CueObject → List CueObject → List (ℕ × ℕ)
shared_objects one [] = []
shared_objects one (object ∷ two) =
    with_found (λ rest. shared_objects rest two) one object.cue
    (first_and_rest (λ other. is_same_object other object) one)

-- the number of the object of a cue: 32,768 and on for those that are shared, and else the place of the cue
abbrev pub names_of : List ℕ → Names
names_of shared place = unwrap_or (option_map (λ n. 32768 + n) (place_from 0 place shared)) place

-- ---- one language

-- a set of a plan, with its epoch and the objects of its cues
pub record Side : Type 0 where
  pub script : Script
  pub set : PlannedSet
  pub epoch : Epoch
  pub objects : List CueObject

-- the epoch is that of the set, and the objects are those that draw the pictures of its cues, in order
pub record IsSide (side : Side) : Type 0 where
  pub found : slice_get side.script.epochs side.set.epoch ≡ Some side.epoch
  pub cues : map (λ (object : CueObject). object.cue) side.objects ≡ side.set.cues
  pub coded : AreObjectsOf side.script.pictures side.epoch side.set.cues
      (map (λ (object : CueObject). object_segment object.cue object.see_through object.top object.bottom) side.objects)

-- its CLUTs
abbrev pub cluts_of : Side → List SegmentValue
cluts_of side = map (clut_segment_of side.epoch) side.set.cluts

-- its display, its page and its regions
abbrev pub head_of : Names → Side → List SegmentValue
head_of names side =
    display_segments side.script side.set.state
    ++ (page_segment side.script side.epoch side.set ∷ map (named_region names side.epoch) side.set.regions)

-- the object of a cue, with its number
abbrev pub object_of : Names → CueObject → SegmentValue
object_of names object = object_segment (names object.cue) object.see_through object.top object.bottom

-- ---- objects in their order

-- the objects before the first one of a cue; all of them, where none is of the cue
abbrev pub before_cue : ℕ → List CueObject → List CueObject
before_cue cue [] = []
before_cue cue (one ∷ more) = if one.cue == cue then [] else one ∷ before_cue cue more

-- the objects behind the first one of a cue; nothing, where none is of the cue
abbrev pub behind_cue : ℕ → List CueObject → List CueObject
behind_cue cue [] = []
behind_cue cue (one ∷ more) = if one.cue == cue then more else behind_cue cue more

-- the first object of a cue, alone in a list; nothing, where none is of the cue
abbrev pub at_cue : ℕ → List CueObject → List CueObject
at_cue cue [] = []
at_cue cue (one ∷ more) = if one.cue == cue then one ∷ [] else at_cue cue more

-- objects on a page
abbrev pub own : ℕ → Names → List CueObject → List Paged
own page names objects = map (λ object. on page (object_of names object)) objects

-- for each shared object those of each language before it, and then it; then the others of the one and of the other
abbrev pub in_order : TwoPages → Names → Names → List (ℕ × ℕ) → List CueObject → List CueObject → List Paged
in_order pages first second [] one two = own pages.first first one ++ own pages.second second two
in_order pages first second (pair ∷ pairs) one two =
    own pages.first first (before_cue pair.0 one)
    ++ (own pages.second second (before_cue pair.1 two)
    ++ (own pages.shared first (at_cue pair.0 one)
    ++ in_order pages first second pairs (behind_cue pair.0 one) (behind_cue pair.1 two)))

-- ---- the set

-- the cues of the one and of the other language whose objects are shared, in order
abbrev pub pairs_of : Side → Side → List (ℕ × ℕ)
pairs_of one two = shared_objects one.objects two.objects

-- the numbers (object_id) that the first language gives the objects of its cues
abbrev pub first_names : Side → Side → Names
first_names one two = names_of (map (λ (pair : ℕ × ℕ). pair.0) (pairs_of one two))

-- the numbers (object_id) that the second language gives the objects of its cues
abbrev pub second_names : Side → Side → Names
second_names one two = names_of (map (λ (pair : ℕ × ℕ). pair.1) (pairs_of one two))

-- one of the CLUTs is equal to this one but for the page
abbrev pub has_clut : List SegmentValue → SegmentValue → Bool
has_clut cluts clut = list_any (is_same_segment clut) cluts

-- the CLUTs of a language that the other has not
abbrev pub own_cluts : Side → Side → List SegmentValue
own_cluts one two = filter (λ clut. not (has_clut (cluts_of two) clut)) (cluts_of one)

-- the CLUTs of a language that the other has too
abbrev pub shared_cluts : Side → Side → List SegmentValue
shared_cluts one two = filter (has_clut (cluts_of two)) (cluts_of one)

-- The segments, in order: display, page and regions of each language; the CLUTs of each that are not shared, and the
-- shared ones; the objects; and the two ends.
unfoldable pub pair_segments : TwoPages → Side → Side → List Paged
pair_segments pages one two =
    map (on pages.first) (head_of (first_names one two) one)
    ++ (map (on pages.second) (head_of (second_names one two) two)
    ++ (map (on pages.first) (own_cluts one two)
    ++ (map (on pages.second) (own_cluts two one)
    ++ (map (on pages.shared) (shared_cluts one two)
    ++ (in_order pages (first_names one two) (second_names one two) (pairs_of one two) one.objects two.objects
    ++ on pages.first end_of_set ∷ on pages.second end_of_set ∷ [])))))

-- these are the segments of the two sets at one place of the plans of two scripts
pub record ArePairSegments (pages : TwoPages) (first second : Script) (one two : PlannedSet)
    (segments : List Paged) : Type 0 where
  pub first_side : Side
  pub second_side : Side
  pub of_first : IsSide first_side × (first_side.script ≡ first) × (first_side.set ≡ one)
  pub of_second : IsSide second_side × (second_side.script ≡ second) × (second_side.set ≡ two)
  pub are : segments ≡ pair_segments pages first_side second_side

-- ---- its size

-- how many bytes the segments have
abbrev pub segments_size : List Paged → ℕ
segments_size segments = sum_by paged_length segments

-- the size of the set: that of the one PES packet of its segments
abbrev pub pair_size : List Paged → ℕ
pair_size segments = OTHER_BYTES + segments_size segments

-- the greatest of these numbers; 0 where there is none
abbrev pub greatest_of : List ℕ → ℕ
greatest_of [] = 0
greatest_of (one ∷ more) = max one (greatest_of more)

-- the set as it is sent
abbrev pub pair_raw : ℕ → List Paged → RawSet
pair_raw pts of_set = record { time = pts; segments = map paged_bytes of_set }
