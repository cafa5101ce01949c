-- What counts for the sets of a service's pages in the data field of a PES packet (EN 300 743, clauses 5.1 and 7.2),
-- taken one after another.
use Rattle.std.specs.Prelude.{◌≡◌, ℕ, ◌<◌, ◌==◌, ◌&&◌, ◌||◌, Bool, List, [], ◌∷◌, length, filter, Option, Some, None, Result, Ok, Err}
use Rattle.std.specs.List.{list_any}
use Rattle.stream_syntax.specs.DataField.{Frame, segment, broken, frames_of}
use Rattle.stream_syntax.specs.Segments.{set_kinds}
use Rattle.stream_syntax.specs.declared.segment_fault.SegmentFault.{SegmentFault}
use Rattle.decoder_model.specs.declared.pages.Pages.{Pages}
use Rattle.decoder_model.specs.Frames.{counts_for, shared_kinds}
use Rattle.decoder_model.specs.Received.{IsFramed}
use Rattle.display_sets.specs.declared.counted.Front.{Front}

-- the segments of these pages in a data field, and the fault at which it breaks off, whatever page stands beside it
abbrev pub counted_in : Pages → List ℕ → List Frame
counted_in pages field = filter (counts_for pages) (frames_of field)

-- a segment with this page id and of this type counts: one of a display set on the composition page, or one that may be
-- shared on the ancillary page
abbrev pub is_counted : Pages → ℕ → ℕ → Bool
is_counted pages id kind =
    (id == pages.composition) && list_any (λ other. kind == other) set_kinds
    || (id == pages.ancillary) && list_any (λ other. kind == other) shared_kinds

-- the first segment that counts, and what is left behind it
pub record IsCountedFront (pages : Pages) (field : List ℕ) (front : Front) : Type 0 where
  pub listed : counted_in pages field ≡ segment front.segment.now ∷ counted_in pages front.rest.now
  pub framed : IsFramed front.segment.now
  pub shorter : length front.rest.now < length field

-- the first thing that counts: nothing, a fault, or a segment
abbrev pub IsNextCounted : Pages → List ℕ → Option (Result Front SegmentFault) → Type 0
IsNextCounted pages field None = counted_in pages field ≡ []
IsNextCounted pages field (Some (Err fault)) = counted_in pages field ≡ broken fault ∷ []
IsNextCounted pages field (Some (Ok front)) = IsCountedFront pages field front
