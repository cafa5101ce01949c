-- Bytes that are one segment by their head have a content or a fault.
use Rattle.std.proofs.Common.{◌≡◌, ◌⊎◌, inl, inr, ℕ, ◌+◌, ◌<◌, List, [], length, take, Option, Some, None, refl, sym, subst, arith, All}
use Rattle.std.proofs.lemmas.Bool.{cases_lt, cases_eq}
use Rattle.std.proofs.lemmas.List.{take_all, get_or_past}
use Rattle.std.proofs.lemmas.List.Elements.{All-get_or}
use Rattle.sub_base.specs.declared.depth.Depth.TheVariants.{Eight}
use Rattle.stream_syntax.specs.Fields.{Field}
use Rattle.stream_syntax.specs.PixelBlocks.{Part, AreParts, runs_after, IsBlock, IsBlockFault}
use Rattle.stream_syntax.specs.SegmentTests.{body_tests, body_of, top_in, bottom_in, AreBlocks, IsBlocksFault, in_top, in_bottom, in_tests, in_blocks, in_body}
use Rattle.stream_syntax.specs.Segments.{SegmentValue, of_page, of_region, of_clut, of_object, of_display, end_of_set, passed_over, IsBody, IsSegment}
use Rattle.stream_syntax.specs.Tests.{byte_at, word_at, first_fault}
use Rattle.stream_syntax.specs.declared.code_fault.CodeFault.{CodeFault}
use Rattle.stream_syntax.specs.declared.segment_fault.SegmentFault.{SegmentFault}
use Rattle.decoder_model.specs.Readings.{Reading, read, faulty, AreObjectFields, IsReading}
use Rattle.decoder_model.specs.Received.{IsFramed}
use Rattle.segments.specs.Reading.{value_in}
use Rattle.segments.proofs.WholeSegments.{is_segment}
use Rattle.segments.proofs.Shapes.{AreBytes, AreBytes-drop, AreBytes-take}
use Rattle.segments.proofs.Whole.{Laid, body_laid}
use Rattle.pixel_codes.proofs.BlockParts.{parts_or_fault}

-- ---- blocks

-- sub-blocks are a block
block_of : (top : List ℕ) (parts : List Part) → AreParts Eight parts top
    → IsBlock Eight top (runs_after Eight [] parts)
block_of top parts are = record { parts = parts; whole = are; drawn = refl }

-- both blocks of an object
pub record HaveParts (top bottom : List ℕ) : Type 0 where
  pub top_parts : List Part
  pub top_are : AreParts Eight top_parts top
  pub bottom_parts : List Part
  pub bottom_are : AreParts Eight bottom_parts bottom

pub are_blocks : (top bottom : List ℕ) → HaveParts top bottom → AreBlocks top bottom
are_blocks top bottom parts = record {
  top_runs = runs_after Eight [] parts.top_parts;
  top_is = block_of top parts.top_parts parts.top_are;
  bottom_runs = runs_after Eight [] parts.bottom_parts;
  bottom_is = block_of bottom parts.bottom_parts parts.bottom_are;
}

abbrev Parted : List ℕ → Type 0
Parted bytes =
    ((parts : List Part) × AreParts Eight parts bytes) ⊎ ((fault : CodeFault) × IsBlockFault Eight bytes fault)

-- or the first fault of them
abbrev HaveFault : List ℕ → List ℕ → Type 0
HaveFault top bottom = (fault : SegmentFault) × IsBlocksFault top bottom fault

by_blocks : (top bottom : List ℕ) → Parted top → Parted bottom → HaveParts top bottom ⊎ HaveFault top bottom
by_blocks top bottom (inr (code, bad)) other = inr (_, in_top code bad refl)
by_blocks top bottom (inl (parts, are)) (inr (code, bad)) =
    inr (_, in_bottom (runs_after Eight [] parts) code (block_of top parts are) bad refl)
by_blocks top bottom (inl (parts, are)) (inl (others, are_too)) =
    inl (record { top_parts = parts; top_are = are; bottom_parts = others; bottom_are = are_too })

-- ---- contents

-- a body of another type than that of an object has no sub-blocks
no_fields : (value : SegmentValue) (kind : ℕ) (fields : List Field) → IsBody value kind fields
    → (kind ≡ 19 → ⊥)
    → AreObjectFields value [] []
no_fields (of_page value) kind fields is other = (refl, refl)
no_fields (of_region value) kind fields is other = (refl, refl)
no_fields (of_clut value) kind fields is other = (refl, refl)
no_fields (of_object value) kind fields is other = absurd (other is.0)
no_fields (of_display value) kind fields is other = (refl, refl)
no_fields end_of_set kind fields is other = (refl, refl)
no_fields passed_over kind fields is other = (refl, refl)

-- an object has those of its blocks
object_fields_are : (kind : ℕ) (body : List ℕ) (parts : HaveParts (top_in body) (bottom_in body)) → kind ≡ 19
    → AreObjectFields (value_in kind body) parts.top_parts parts.bottom_parts
object_fields_are kind body parts is =
    subst (λ (known : ℕ). AreObjectFields (value_in known body) parts.top_parts parts.bottom_parts) (sym is)
    (parts.top_are, parts.bottom_are)

all_bytes : (bytes : List ℕ) → All (λ (byte : ℕ). byte < 256) bytes → AreBytes bytes
all_bytes bytes each place =
    elim (cases_lt place (length bytes)) [
      | inl inside ↦ All-get_or (λ (byte : ℕ). byte < 256) bytes place 0 inside each
      | inr past ↦ rw (get_or_past bytes place 0 past) (omega arith)
    ]

AreBytes-body : (bytes : List ℕ) → AreBytes bytes → AreBytes (body_of bytes)
AreBytes-body bytes fits = AreBytes-take (word_at 4 bytes) _ (AreBytes-drop 6 bytes fits)

-- the whole bytes are the segment that begins them
whole_segment : (bytes : List ℕ) (value : SegmentValue) → IsFramed bytes
    → IsSegment (take (6 + word_at 4 bytes) bytes) value → IsSegment bytes value
whole_segment bytes value framed is =
    let all : take (6 + word_at 4 bytes) bytes ≡ bytes =
    take_all (6 + word_at 4 bytes) bytes (omega (arith, framed.whole)) in
    subst (λ (some : List ℕ). IsSegment some value) all is

abbrev IsRead : List ℕ → Type 0
IsRead bytes = (reading : Reading) × IsReading bytes reading

laid_body : (bytes : List ℕ) → AreBytes bytes
    → first_fault (body_tests (byte_at 1 bytes) (body_of bytes)) ≡ None
    → (byte_at 1 bytes ≡ 19 → AreBlocks (top_in (body_of bytes)) (bottom_in (body_of bytes)))
    → Laid (byte_at 1 bytes) (body_of bytes) (value_in (byte_at 1 bytes) (body_of bytes))
laid_body bytes fits passes blocks =
    body_laid (byte_at 1 bytes) (body_of bytes) _ (AreBytes-body bytes fits) (fits 1) (refl, passes) blocks

read_object : (bytes : List ℕ) → AreBytes bytes → IsFramed bytes
    → first_fault (body_tests (byte_at 1 bytes) (body_of bytes)) ≡ None → byte_at 1 bytes ≡ 19
    → HaveParts (top_in (body_of bytes)) (bottom_in (body_of bytes))
    ⊎ HaveFault (top_in (body_of bytes)) (bottom_in (body_of bytes))
    → IsRead bytes
read_object bytes fits framed passes object (inr (fault, bad)) =
    (faulty fault, in_body framed.framed (in_blocks passes object bad))
read_object bytes fits framed passes object (inl parts) =
    let value = value_in (byte_at 1 bytes) (body_of bytes) in
    let blocks = are_blocks (top_in (body_of bytes)) (bottom_in (body_of bytes)) parts in
    let laid = laid_body bytes fits passes (λ known. blocks) in (
      read (record { value = value; top = parts.top_parts; bottom = parts.bottom_parts }),
      record {
        segment = whole_segment bytes value framed (is_segment bytes value fits framed.framed laid);
        fields = object_fields_are (byte_at 1 bytes) (body_of bytes) parts object;
      },
    )

read_other : (bytes : List ℕ) → AreBytes bytes → IsFramed bytes
    → first_fault (body_tests (byte_at 1 bytes) (body_of bytes)) ≡ None → (byte_at 1 bytes ≡ 19 → ⊥)
    → IsRead bytes
read_other bytes fits framed passes other =
    let value = value_in (byte_at 1 bytes) (body_of bytes) in
    let laid = laid_body bytes fits passes (λ known. absurd (other known)) in (
      read (record { value = value; top = []; bottom = [] }),
      record {
        segment = whole_segment bytes value framed (is_segment bytes value fits framed.framed laid);
        fields = no_fields value (byte_at 1 bytes) laid.fields laid.is_body other;
      },
    )

by_kind : (bytes : List ℕ) → AreBytes bytes → IsFramed bytes
    → first_fault (body_tests (byte_at 1 bytes) (body_of bytes)) ≡ None
    → (byte_at 1 bytes ≡ 19) ⊎ (byte_at 1 bytes ≡ 19 → ⊥) → IsRead bytes
by_kind bytes fits framed passes (inl object) =
    read_object bytes fits framed passes object
    (by_blocks (top_in (body_of bytes)) (bottom_in (body_of bytes))
    (parts_or_fault Eight (top_in (body_of bytes))) (parts_or_fault Eight (bottom_in (body_of bytes))))
by_kind bytes fits framed passes (inr other) = read_other bytes fits framed passes other

by_tests : (bytes : List ℕ) → AreBytes bytes → IsFramed bytes → (fault : Option SegmentFault)
    → first_fault (body_tests (byte_at 1 bytes) (body_of bytes)) ≡ fault → IsRead bytes
by_tests bytes fits framed (Some fault) is = (faulty fault, in_body framed.framed (in_tests is))
by_tests bytes fits framed None is = by_kind bytes fits framed is (cases_eq (byte_at 1 bytes) 19)

-- bytes that pass their tests are a segment with the value that is read from them
pub segment_is : (bytes : List ℕ) → AreBytes bytes → IsFramed bytes
    → first_fault (body_tests (byte_at 1 bytes) (body_of bytes)) ≡ None
    → (byte_at 1 bytes ≡ 19 → AreBlocks (top_in (body_of bytes)) (bottom_in (body_of bytes)))
    → IsSegment bytes (value_in (byte_at 1 bytes) (body_of bytes))
segment_is bytes fits framed passes blocks =
    whole_segment bytes (value_in (byte_at 1 bytes) (body_of bytes)) framed
    (is_segment bytes (value_in (byte_at 1 bytes) (body_of bytes)) fits framed.framed
    (laid_body bytes fits passes blocks))

pub segment_is_read : (bytes : List ℕ) → All (λ (byte : ℕ). byte < 256) bytes → IsFramed bytes
    → (reading : Reading) × IsReading bytes reading
segment_is_read bytes each framed =
    by_tests bytes (all_bytes bytes each) framed (first_fault (body_tests (byte_at 1 bytes) (body_of bytes))) refl
