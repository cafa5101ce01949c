-- A walk over the segments of a set, step by step.
use Rattle.std.proofs.Common.{◌≡◌, ℕ, ◌<◌, ◌||◌, Bool, true, false, List, [], ◌∷◌, length, Option, Some, None, Result, Ok, Err, refl, sym, ap, subst, ◌∙◌, arith}
use Rattle.std.specs.Prelude.{slice_index_or}
use Rattle.std.specs.Option.{option_or, is_some}
use Rattle.stream_syntax.specs.Segments.{Page, Display, SegmentValue}
use Rattle.stream_syntax.specs.declared.segment_fault.SegmentFault.{SegmentFault}
use Rattle.decoder_model.specs.Contents.{page_in, page_in_set, display_in, display_in_set, region_named}
use Rattle.decoder_model.specs.Faults.{contents_in, segment_fault, twice_among}
use Rattle.decoder_model.specs.Readings.{Content, Reading, read, faulty, IsReading}
use Rattle.decoder_model.specs.Received.{BeginsWith, AreRead}
use Rattle.decoder_model.specs.declared.set_fault.SetFault.{SetFault}
use Rattle.segments.specs.Contents.{contents}
use Rattle.segments.specs.Framing.{IsFrameOf}
use Rattle.segments.specs.declared.reading.Segment.{Segment}
use Rattle.page_core.specs.declared.seen.Seen.{Seen}
use Rattle.page_core.specs.Handed.{Matches, IsFrameCutOff}
use Rattle.page_core.specs.declared.front.Front.{Front}
use Rattle.page_core.specs.Private.Seen.{AreFlags, Sees, Progress, page_with, display_with, defines, fault_behind}

or_assoc : {X : Type 0} (a b c : Option X) → option_or a (option_or b c) ≡ option_or (option_or a b) c
or_assoc None b c = refl
or_assoc (Some x) b c = refl

-- what the reader of a prefix says
abbrev pub Reads : List ℕ → Result Segment SegmentFault → List ℕ → Type 0
Reads bytes found rest = (reading : Reading) (behind : List ℕ) → BeginsWith bytes reading behind
    → Matches found reading × (rest ≡ behind)

-- as the front of bytes is cut off and read
pub reads_front : (bytes : List ℕ) (front : Front) (found : Result Segment SegmentFault)
    → ((reading : Reading) (behind : List ℕ) → BeginsWith bytes reading behind → IsFrameCutOff reading behind front)
    → ((segment : List ℕ) (reading : Reading) → IsFrameOf segment front.frame → IsReading segment reading
    → Matches found reading) → Reads bytes found front.rest.now
reads_front bytes front found cut one reading behind begins =
    let off = cut reading behind begins in (one off.segment reading off.framed off.is_reading, off.behind)

-- what is seen behind all that a walk may have passed
abbrev pub SeesNext : Seen → Result Segment SegmentFault → Result Segment SetFault → Seen → Type 0
SeesNext seen found result new = (before : List Reading) (next : Reading) → AreFlags (contents_in before) seen
    → Matches found next → Sees result before next new

display_behind : (display : Option Display) (value : SegmentValue) (next : Reading) (more : List Reading)
    (content : Content) → next ≡ read content → value ≡ content.value
    → option_or display (display_in_set (contents_in (next ∷ more)))
    ≡ option_or (display_with display value) (display_in_set (contents_in more))
display_behind display value next more content is same =
    ap (λ (reading : Reading). option_or display (display_in_set (contents_in (reading ∷ more)))) is
    ∙ or_assoc display (display_in content.value) (display_in_set (contents_in more))
    ∙ ap (λ (v : SegmentValue). option_or (display_with display v) (display_in_set (contents_in more))) (sym same)

either_moved : (a b c : Bool) → (b || (a || c)) ≡ ((a || b) || c)
either_moved true true c = refl
either_moved true false c = refl
either_moved false true c = refl
either_moved false false c = refl

defined_behind : (id : ℕ) (before : List Reading) (next : Reading) (more : List Reading) (content : Content)
    → next ≡ read content
    → (defines id (contents_in before) || defines id (contents_in (next ∷ more)))
    ≡ (defines id (contents_in (next ∷ before)) || defines id (contents_in more))
defined_behind id before next more content is =
    ap (λ (reading : Reading). defines id (contents_in before) || defines id (contents_in (reading ∷ more))) is
    ∙ either_moved (is_some (region_named id content)) (defines id (contents_in before))
    (defines id (contents_in more))
    ∙ ap (λ (reading : Reading). defines id (contents_in (reading ∷ before)) || defines id (contents_in more))
    (sym is)

-- the page of the sets that go on with a content
page_behind : (page : Option Page) (value : SegmentValue) (next : Reading) (more : List Reading) (content : Content)
    → next ≡ read content → value ≡ content.value
    → option_or page (page_in_set (contents_in (next ∷ more)))
    ≡ option_or (page_with page value) (page_in_set (contents_in more))
page_behind page value next more content is same =
    ap (λ (reading : Reading). option_or page (page_in_set (contents_in (reading ∷ more)))) is
    ∙ or_assoc page (page_in content.value) (page_in_set (contents_in more))
    ∙ ap (λ (v : SegmentValue). option_or (page_with page v) (page_in_set (contents_in more))) (sym same)

step : (readings : List Reading) (seen new : Seen) (page : Option Page) (display : Option Display)
    (bytes rest : List ℕ) (found : Result Segment SegmentFault) (segment : Segment) (before left : List Reading)
    → 0 < length bytes → Reads bytes found rest → SeesNext seen found (Ok segment) new
    → AreFlags (contents_in before) seen
    → segment_fault readings ≡ fault_behind before left
    → page_in_set (contents_in readings) ≡ option_or page (page_in_set (contents_in left))
    → display_in_set (contents_in readings) ≡ option_or display (display_in_set (contents_in left))
    → ((id : ℕ)
    → defines id (contents_in readings) ≡ (defines id (contents_in before) || defines id (contents_in left)))
    → AreRead left bytes
    → Progress readings new (page_with page (contents segment)) (display_with display (contents segment)) rest
step readings seen new page display bytes rest found segment before [] some reads sees flags fault first_page
    first_display defined none = absurd (omega (arith, ap length none))
step readings seen new page display bytes rest found segment before (next ∷ more) some reads sees flags fault
    first_page first_display defined (behind, begins, are) =
    let front = reads next behind begins in
    let seen_now = sees before next flags front.0 in
    record {
      before = next ∷ before;
      left = more;
      are_left = subst (λ (b : List ℕ). AreRead more b) (sym front.1) are;
      flags = subst (λ (r : Reading). AreFlags (contents_in (r ∷ before)) new) (sym seen_now.1) seen_now.4;
      fault = fault ∙ ap (λ (f : Option SetFault). option_or f (fault_behind (next ∷ before) more)) seen_now.3;
      first_page = first_page ∙ page_behind page (contents segment) next more seen_now.0 seen_now.1 seen_now.2;
      first_display =
          first_display ∙ display_behind display (contents segment) next more seen_now.0 seen_now.1 seen_now.2;
      defined = λ id. defined id ∙ defined_behind id before next more seen_now.0 seen_now.1;
    }

-- a walk goes on over a segment
pub goes_on : (readings : List Reading) (seen new : Seen) (page : Option Page) (display : Option Display)
    (bytes rest : List ℕ) (found : Result Segment SegmentFault) (segment : Segment)
    → 0 < length bytes → Reads bytes found rest → SeesNext seen found (Ok segment) new
    → Progress readings seen page display bytes
    → Progress readings new (page_with page (contents segment)) (display_with display (contents segment)) rest
goes_on readings seen new page display bytes rest found segment some reads sees p =
    step readings seen new page display bytes rest found segment p.before p.left some reads sees p.flags p.fault
    p.first_page p.first_display p.defined p.are_left

refused : (readings : List Reading) (seen new : Seen) (bytes rest : List ℕ) (found : Result Segment SegmentFault)
    (why : SetFault) (before left : List Reading)
    → 0 < length bytes → Reads bytes found rest → SeesNext seen found (Err why) new
    → AreFlags (contents_in before) seen → segment_fault readings ≡ fault_behind before left
    → AreRead left bytes
    → segment_fault readings ≡ Some why
refused readings seen new bytes rest found why before [] some reads sees flags fault none =
    absurd (omega (arith, ap length none))
refused readings seen new bytes rest found why before (next ∷ more) some reads sees flags fault
    (behind, begins, are) =
    fault ∙ ap (λ (f : Option SetFault). option_or f (fault_behind (next ∷ before) more))
    (sees before next flags (reads next behind begins).0)

-- or it ends there with a fault
pub is_refused : (readings : List Reading) (seen new : Seen) (page : Option Page) (display : Option Display)
    (bytes rest : List ℕ) (found : Result Segment SegmentFault) (why : SetFault)
    → 0 < length bytes → Reads bytes found rest → SeesNext seen found (Err why) new
    → Progress readings seen page display bytes → segment_fault readings ≡ Some why
is_refused readings seen new page display bytes rest found why some reads sees p =
    refused readings seen new bytes rest found why p.before p.left some reads sees p.flags p.fault p.are_left

-- where no segment is at the front, none is left
pub none_left : (left : List Reading) (bytes : List ℕ)
    → ((reading : Reading) (behind : List ℕ) → BeginsWith bytes reading behind → ⊥) → AreRead left bytes
    → left ≡ []
none_left [] bytes nothing are = refl
none_left (next ∷ more) bytes nothing (behind, begins, are) = absurd (nothing next behind begins)

-- at the end all is passed
pub ends : (readings : List Reading) (seen : Seen) (page : Option Page) (display : Option Display) (bytes : List ℕ)
    → ((reading : Reading) (behind : List ℕ) → BeginsWith bytes reading behind → ⊥)
    → Progress readings seen page display bytes
    → (segment_fault readings ≡ None) × (page_in_set (contents_in readings) ≡ page)
    × (display_in_set (contents_in readings) ≡ display)
    × ((id : ℕ) → id < 256 → slice_index_or seen.regions id false ≡ defines id (contents_in readings))
ends readings seen page display bytes nothing p =
    let empty = none_left p.left bytes nothing p.are_left in (
      p.fault ∙ ap (fault_behind p.before) empty,
      p.first_page ∙ ap (λ (left : List Reading). option_or page (page_in_set (contents_in left))) empty
          ∙ or_none page,
      p.first_display ∙ ap (λ (left : List Reading). option_or display (display_in_set (contents_in left))) empty
          ∙ or_none display,
      λ id low. p.flags.regions id low ∙ or_false (defines id (contents_in p.before))
          ∙ ap (λ (left : List Reading). defines id (contents_in p.before) || defines id (contents_in left))
          (sym empty) ∙ sym (p.defined id),
    )
  where
    or_none : {X : Type 0} (found : Option X) → option_or found None ≡ found
    or_none None = refl
    or_none (Some found) = refl

    or_false : (b : Bool) → b ≡ (b || false)
    or_false true = refl
    or_false false = refl

-- a segment that is no second one is seen
pub passes : (before : List Reading) (next : Reading) (segment : Segment) (seen new : Seen)
    → ((others : List Content) → AreFlags others seen → None ≡ twice_among others (contents segment))
    → ((others : List Content) (content : Content) → AreFlags others seen → contents segment ≡ content.value
    → AreFlags (content ∷ others) new)
    → AreFlags (contents_in before) seen → Matches (Ok segment) next → Sees (Ok segment) before next new
passes before (read content) segment seen new fault flags are same = (
  content,
  refl,
  same,
  ap (twice_among (contents_in before)) (sym same)
      ∙ sym (fault (contents_in before) are),
  flags (contents_in before) content are same,
)
passes before (faulty fault) segment seen new none flags are same = absurd same
