-- A segment is read in one way, and so are sets and losses.
use Rattle.std.proofs.Common.{◌≡◌, ◌∙◌, ℕ, List, [], ◌∷◌, length, refl, sym, ap, subst, arith}
use Rattle.std.proofs.Math.Seq.{take-length}
use Rattle.sub_base.specs.declared.depth.Depth.TheVariants.{Eight}
use Rattle.stream_syntax.specs.PixelBlocks.{Part}
use Rattle.stream_syntax.specs.SegmentTests.{IsSegmentFault}
use Rattle.stream_syntax.specs.Segments.{SegmentValue, of_page, of_region, of_clut, of_object, of_display, end_of_set, passed_over, IsSegment}
use Rattle.stream_syntax.specs.declared.segment_fault.SegmentFault.{SegmentFault}
use Rattle.decoder_model.specs.Readings.{Content, Reading, read, faulty, AreObjectFields, IsContent, IsReading, AreReadings, IsDeliveryRead, AreDeliveriesRead}
use Rattle.decoder_model.specs.Sets.{Delivery, lost, whole, refused}
use Rattle.pixel_codes.proofs.OneBlock.{one_block}
use Rattle.segments.proofs.Readings.{no_fault_there, same_segment_fault, one_reading}

-- ---- contents

one_field_pair : (value : SegmentValue) (top bottom top' bottom' : List Part) → AreObjectFields value top bottom
    → AreObjectFields value top' bottom' → (top ≡ top') × (bottom ≡ bottom')
one_field_pair (of_page value) top bottom top' bottom' h k = (h.0 ∙ sym k.0, h.1 ∙ sym k.1)
one_field_pair (of_region value) top bottom top' bottom' h k = (h.0 ∙ sym k.0, h.1 ∙ sym k.1)
one_field_pair (of_clut value) top bottom top' bottom' h k = (h.0 ∙ sym k.0, h.1 ∙ sym k.1)
one_field_pair (of_object value) top bottom top' bottom' h k =
    (one_block Eight top top' value.top h.0 k.0, one_block Eight bottom bottom' value.bottom h.1 k.1)
one_field_pair (of_display value) top bottom top' bottom' h k = (h.0 ∙ sym k.0, h.1 ∙ sym k.1)
one_field_pair end_of_set top bottom top' bottom' h k = (h.0 ∙ sym k.0, h.1 ∙ sym k.1)
one_field_pair passed_over top bottom top' bottom' h k = (h.0 ∙ sym k.0, h.1 ∙ sym k.1)

-- bytes are a segment with one content
one_content : (bytes : List ℕ) (one other : Content) → IsContent bytes one → IsContent bytes other
    → one ≡ other
one_content bytes one other h k =
    let value : one.value ≡ other.value =
    (one_reading bytes bytes [] [] one.value other.value h.segment k.segment refl).1 in
    let fields =
    one_field_pair other.value one.top one.bottom other.top other.bottom
    (subst (λ (v : SegmentValue). AreObjectFields v one.top one.bottom) value h.fields) k.fields in
    λ i. record { value = value i; top = fields.0 i; bottom = fields.1 i }

-- and are not refused for a fault too
no_fault_too : (bytes : List ℕ) (content : Content) (fault : SegmentFault) → IsContent bytes content
    → IsSegmentFault bytes fault → ⊥
no_fault_too bytes content fault h bad =
    no_fault_there bytes (length bytes) content.value fault (omega arith)
    (subst (λ (all : List ℕ). IsSegment all content.value) (sym (take-length bytes)) h.segment) bad

-- ---- readings

pub same_reading : (bytes : List ℕ) (one other : Reading) → IsReading bytes one → IsReading bytes other
    → one ≡ other
same_reading bytes (read content) (read other) h k = ap read (one_content bytes content other h k)
same_reading bytes (read content) (faulty fault) h k = absurd (no_fault_too bytes content fault h k)
same_reading bytes (faulty fault) (read content) h k = absurd (no_fault_too bytes content fault k h)
same_reading bytes (faulty fault) (faulty other) h k = ap faulty (same_segment_fault bytes fault other h k)

same_readings : (segments : List (List ℕ)) (one other : List Reading) → AreReadings segments one
    → AreReadings segments other → one ≡ other
same_readings [] [] [] h k = refl
same_readings [] [] (reading ∷ other) h k = absurd k
same_readings [] (reading ∷ one) other h k = absurd h
same_readings (bytes ∷ segments) [] other h k = absurd h
same_readings (bytes ∷ segments) (reading ∷ one) [] h k = absurd k
same_readings (bytes ∷ segments) (reading ∷ one) (found ∷ other) h k =
    ap (λ first. first ∷ one) (same_reading bytes reading found h.0 k.0)
    ∙ ap (λ rest. found ∷ rest) (same_readings segments one other h.1 k.1)

same_delivery : (delivery : Delivery (List ℕ)) (one other : Delivery Reading) → IsDeliveryRead delivery one
    → IsDeliveryRead delivery other → one ≡ other
same_delivery lost one other h k = h ∙ sym k
same_delivery (whole time size segments) one other h k =
    h.2 ∙ ap (whole time size) (same_readings segments h.0 k.0 h.1 k.1) ∙ sym k.2
same_delivery (refused time size fault) one other h k = h ∙ sym k

pub same_past : (deliveries : List (Delivery (List ℕ))) (one other : List (Delivery Reading))
    → AreDeliveriesRead deliveries one → AreDeliveriesRead deliveries other → one ≡ other
same_past [] [] [] h k = refl
same_past [] [] (reading ∷ other) h k = absurd k
same_past [] (reading ∷ one) other h k = absurd h
same_past (delivery ∷ deliveries) [] other h k = absurd h
same_past (delivery ∷ deliveries) (reading ∷ one) [] h k = absurd k
same_past (delivery ∷ deliveries) (reading ∷ one) (found ∷ other) h k =
    ap (λ first. first ∷ one) (same_delivery delivery reading found h.0 k.0)
    ∙ ap (λ rest. found ∷ rest) (same_past deliveries one other h.1 k.1)
