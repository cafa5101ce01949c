-- What a walk over the segments of a set remembers of those that it has passed, the latest first.
use Rattle.std.specs.Prelude.{◌≡◌, ℕ, ◌<◌, ◌||◌, Bool, false, slice_index_or, List, ◌∷◌, Option, Some, None, Result, Ok, Err, option_map}
use Rattle.std.specs.List.{list_any}
use Rattle.std.specs.Option.{is_some, option_or}
use Rattle.stream_syntax.specs.Segments.{Page, Display, SegmentValue}
use Rattle.decoder_model.specs.Contents.{page_in, page_of, display_in, display_of, region_named, page_in_set, display_in_set}
use Rattle.sub_base.specs.Lists.{first_given, with_earlier}
use Rattle.decoder_model.specs.Faults.{contents_in, fault_of_segment, segment_fault}
use Rattle.decoder_model.specs.Readings.{Content, Reading, read}
use Rattle.decoder_model.specs.declared.set_fault.SetFault.{SetFault}
use Rattle.segments.specs.Contents.{contents, page_value, display_value}
use Rattle.segments.specs.declared.reading.Segment.{Segment}
use Rattle.decoder_model.specs.Received.{AreRead}
use Rattle.page_core.specs.declared.seen.Seen.{Seen}
use Rattle.page_core.specs.declared.seen.Found.{Found}

-- the fault of the segments that are left, behind those that were passed
abbrev pub fault_behind : List Reading → List Reading → Option SetFault
fault_behind before left =
    first_given (λ (placed : Reading × List Reading). fault_of_segment placed.1 placed.0) (with_earlier before left)

-- a set has a region of that id
abbrev pub defines : ℕ → List Content → Bool
defines id set = list_any (λ content. is_some (region_named id content)) set

-- a walk that has passed these remembers this
pub record AreFlags (before : List Content) (seen : Seen) : Type 0 where
  pub page : seen.page ≡ list_any (λ content. is_some (page_of content)) before
  pub display : seen.display ≡ list_any (λ content. is_some (display_of content)) before
  pub regions : (id : ℕ) → id < 256 → slice_index_or seen.regions id false ≡ defines id before

-- a segment behind others is the content that was read, and not refused; or it is refused with that fault
abbrev pub Sees : Result Segment SetFault → List Reading → Reading → Seen → Type 0
Sees (Ok segment) before next seen =
    (content : Content) × (next ≡ read content) × (contents segment ≡ content.value)
    × (fault_of_segment before next ≡ None) × AreFlags (content ∷ contents_in before) seen
Sees (Err fault) before next seen = fault_of_segment before next ≡ Some fault

-- the page so far, and else that of a segment
abbrev pub page_with : Option Page → SegmentValue → Option Page
page_with page value = option_or page (page_in value)

-- the display so far, and else that of a segment
abbrev pub display_with : Option Display → SegmentValue → Option Display
display_with display value = option_or display (display_in value)

-- how far a walk over the segments of a set has come, with these bytes left
pub record Progress (readings : List Reading) (seen : Seen) (page : Option Page) (display : Option Display)
    (bytes : List ℕ) : Type 0 where
  pub before : List Reading
  pub left : List Reading
  pub are_left : AreRead left bytes
  pub flags : AreFlags (contents_in before) seen
  pub fault : segment_fault readings ≡ fault_behind before left
  pub first_page : page_in_set (contents_in readings) ≡ option_or page (page_in_set (contents_in left))
  pub first_display : display_in_set (contents_in readings) ≡ option_or display (display_in_set (contents_in left))
  pub defined : (id : ℕ)
      → defines id (contents_in readings) ≡ (defines id (contents_in before) || defines id (contents_in left))

-- what was found in a set: its page, its display, and which regions it defines
pub record IsFound (set : List Content) (found : Found) : Type 0 where
  pub page : page_in_set set ≡ option_map page_value found.page
  pub display : display_in_set set ≡ option_map display_value found.display
  pub regions : (id : ℕ) → id < 256 → slice_index_or found.regions id false ≡ defines id set

-- a whole set was walked over: none of its segments has a fault, and this was found; or it has this first fault
abbrev pub Scanned : Result Found SetFault → List Reading → Type 0
Scanned (Ok found) readings = (segment_fault readings ≡ None) × IsFound (contents_in readings) found
Scanned (Err fault) readings = segment_fault readings ≡ Some fault
