-- What counts for a service's pages at the front of a data field.
use Rattle.std.proofs.Common.{◌≡◌, ◌∙◌, ℕ, ◌<◌, ◌≤◌, Bool, true, false, cond, List, [], ◌∷◌, length, take, drop, Option, Some, None, Result, Ok, Err, sym, ap, subst, arith, length-drop}
use Rattle.std.specs.Option.{is_some}
use Rattle.std.specs.List.{filter}
use Rattle.stream_syntax.specs.Tests.{byte_at}
use Rattle.stream_syntax.specs.declared.segment_fault.SegmentFault.{SegmentFault}
use Rattle.stream_syntax.specs.DataField.{Frame, segment, broken, frames_of}
use Rattle.stream_syntax.proofs.FrameLaws.{StandsFirst, front_of_field}
use Rattle.segments.specs.declared.frame.Frame.{Frame as FrameOfBytes}
use Rattle.segments.specs.Framing.{IsFrameOf, IsFirstFrame}
use Rattle.decoder_model.specs.declared.pages.Pages.{Pages}
use Rattle.decoder_model.specs.Frames.{counts_for, is_of_pages}
use Rattle.decoder_model.specs.Received.{IsFramed}
use Rattle.display_sets.specs.Counted.{counted_in, is_counted, IsNextCounted, IsCountedFront}
use Rattle.display_sets.specs.declared.counted.Front.{Front}
use Rattle.sub_base.specs.Lists.{has_some}

-- ---- a walk over the frames of a field

-- these frames are left, in these bytes: the field has the same that counts
pub record IsLeft (pages : Pages) (field rest : List ℕ) (left : List Frame) : Type 0 where
  pub same : counted_in pages field ≡ filter (counts_for pages) left
  pub stand : left ≡ frames_of rest
  pub within : length rest ≤ length field

pub all_left : (pages : Pages) (field : List ℕ) (left : List Frame) → left ≡ frames_of field
    → IsLeft pages field field left
all_left pages field left is =
    record { same = ap (filter (counts_for pages)) (sym is); stand = is; within = omega arith }

-- nothing is left, or a broken one
pub counted_none : (pages : Pages) (field rest : List ℕ) (left : List Frame) → IsLeft pages field rest left
    → left ≡ [] → counted_in pages field ≡ []
counted_none pages field rest left walked none = walked.same ∙ ap (filter (counts_for pages)) none

pub counted_broken : (pages : Pages) (field rest : List ℕ) (left : List Frame) (fault : SegmentFault)
    → IsLeft pages field rest left → left ≡ broken fault ∷ [] → counted_in pages field ≡ broken fault ∷ []
counted_broken pages field rest left fault walked is = walked.same ∙ ap (filter (counts_for pages)) is

-- the segment at the front of what is left
pub front_of : (pages : Pages) (field rest : List ℕ) (left others : List Frame) (frame : FrameOfBytes)
    → IsLeft pages field rest left → (first : IsFirstFrame left others frame)
    → StandsFirst rest first.bytes others
front_of pages field rest left others frame walked first =
    front_of_field rest first.bytes others (sym walked.stand ∙ first.first)

pub whole_inside : (pages : Pages) (field rest : List ℕ) (left others : List Frame) (frame : FrameOfBytes)
    → IsLeft pages field rest left → IsFirstFrame left others frame → frame.whole ≤ length rest
whole_inside pages field rest left others frame walked first =
    omega (arith, (front_of pages field rest left others frame walked first).inside, first.exact)

-- whether it counts is what its head says
counts : (pages : Pages) (bytes : List ℕ) (frame : FrameOfBytes) → IsFrameOf bytes frame
    → is_of_pages pages bytes ≡ is_counted pages frame.page frame.kind
counts pages bytes frame is =
    ap (λ id. is_counted pages id (byte_at 1 bytes)) (sym is.page_is)
    ∙ ap (is_counted pages frame.page) (sym is.kind_is)

counted_front : (pages : Pages) (field rest : List ℕ) (left others : List Frame) (frame : FrameOfBytes)
    (counted : Bool) → IsLeft pages field rest left → (first : IsFirstFrame left others frame)
    → is_counted pages frame.page frame.kind ≡ counted
    → counted_in pages field
    ≡ cond counted (segment first.bytes ∷ filter (counts_for pages) others) (filter (counts_for pages) others)
counted_front pages field rest left others frame counted walked first is_counted =
    walked.same ∙ ap (filter (counts_for pages)) first.first
    ∙ ap (λ same. cond same (segment first.bytes ∷ filter (counts_for pages) others)
    (filter (counts_for pages) others)) (counts pages first.bytes frame first.is_frame ∙ is_counted)

behind_is : (pages : Pages) (field rest behind : List ℕ) (left others : List Frame) (frame : FrameOfBytes)
    → IsLeft pages field rest left → IsFirstFrame left others frame
    → behind ≡ drop frame.whole rest → others ≡ frames_of behind
behind_is pages field rest behind left others frame walked first is_behind =
    (front_of pages field rest left others frame walked first).others_are
    ∙ ap (λ n. frames_of (drop n rest)) (sym first.exact) ∙ ap frames_of (sym is_behind)

-- a segment that does not count is passed over
pub passed : (pages : Pages) (field rest behind : List ℕ) (left others : List Frame) (frame : FrameOfBytes)
    → IsLeft pages field rest left → IsFirstFrame left others frame
    → is_counted pages frame.page frame.kind ≡ false → behind ≡ drop frame.whole rest
    → IsLeft pages field behind others
passed pages field rest behind left others frame walked first other is_behind =
    let within = walked.within in
    let shorter = length-drop frame.whole rest in
    record {
      same = counted_front pages field rest left others frame false walked first other;
      stand = behind_is pages field rest behind left others frame walked first is_behind;
      within = subst (λ (bytes : List ℕ). length bytes ≤ length field) (sym is_behind) (omega arith);
    }

pub first_segment : (pages : Pages) (field rest : List ℕ) (left others : List Frame) (frame : FrameOfBytes)
    (front : Front) → IsLeft pages field rest left → IsFirstFrame left others frame
    → is_counted pages frame.page frame.kind ≡ true
    → front.segment.now ≡ take frame.whole rest → front.rest.now ≡ drop frame.whole rest
    → IsCountedFront pages field front
first_segment pages field rest left others frame front walked first same is_segment is_rest =
    let within = walked.within in
    let shorter = length-drop frame.whole rest in
    let stands = front_of pages field rest left others frame walked first in
    let is_frame = first.is_frame in
    let bytes : first.bytes ≡ front.segment.now =
    stands.front ∙ ap (λ n. take n rest) (sym first.exact) ∙ sym is_segment in
    let framed : IsFramed first.bytes =
    record { framed = is_frame.passes; whole = sym first.exact ∙ is_frame.whole_is } in
    record {
      listed = counted_front pages field rest left others frame true walked first same
          ∙ ap (λ all. segment all ∷ filter (counts_for pages) others) bytes
          ∙ ap (λ frames. segment front.segment.now ∷ filter (counts_for pages) frames)
          (behind_is pages field rest front.rest.now left others frame walked first is_rest);
      framed = subst IsFramed bytes framed;
      shorter =
          subst (λ (bytes : List ℕ). length bytes < length field) (sym is_rest)
          (omega (arith, stands.inside, first.exact, is_frame.whole_is));
    }

-- whether something counts
pub some_counts : (pages : Pages) (field : List ℕ) (next : Option (Result Front SegmentFault))
    → IsNextCounted pages field next → is_some next ≡ has_some (counted_in pages field)
some_counts pages field None is = sym (ap has_some is)
some_counts pages field (Some (Err fault)) is = sym (ap has_some is)
some_counts pages field (Some (Ok front)) is = sym (ap has_some is.listed)
