-- The segments of display sets as they are read (EN 300 743, clause 7.2): what each stands for, or its fault.
use Rattle.std.specs.Prelude.{◌≡◌, ℕ, List, [], ◌∷◌}
use Rattle.sub_base.specs.declared.depth.Depth.TheVariants.{Eight}
use Rattle.stream_syntax.specs.PixelBlocks.{Part, AreParts}
use Rattle.stream_syntax.specs.SegmentTests.{IsSegmentFault}
use Rattle.stream_syntax.specs.Segments.{SegmentValue, of_page, of_region, of_clut, of_object, of_display, end_of_set, passed_over, IsSegment}
use Rattle.stream_syntax.specs.declared.segment_fault.SegmentFault.{SegmentFault}
use Rattle.decoder_model.specs.Sets.{Delivery, lost, whole, refused}

-- a segment that is read: what it stands for and, where that is an object, the sub-blocks of its two fields
pub record Content : Type 0 where
  pub value : SegmentValue
  pub top : List Part
  pub bottom : List Part

-- what a segment is read as: a content, or the fault for which it is refused
pub data Reading : Type 0 where
  read : Content → Reading
  faulty : SegmentFault → Reading

-- the sub-blocks of an object's two fields (7.2.5), in strings of up to eight bits; other segments have none
abbrev pub AreObjectFields : SegmentValue → List Part → List Part → Type 0
AreObjectFields (of_page value) top bottom = (top ≡ []) × (bottom ≡ [])
AreObjectFields (of_region value) top bottom = (top ≡ []) × (bottom ≡ [])
AreObjectFields (of_clut value) top bottom = (top ≡ []) × (bottom ≡ [])
AreObjectFields (of_object value) top bottom = AreParts Eight top value.top × AreParts Eight bottom value.bottom
AreObjectFields (of_display value) top bottom = (top ≡ []) × (bottom ≡ [])
AreObjectFields end_of_set top bottom = (top ≡ []) × (bottom ≡ [])
AreObjectFields passed_over top bottom = (top ≡ []) × (bottom ≡ [])

-- the bytes are a segment with this content
pub record IsContent (bytes : List ℕ) (content : Content) : Type 0 where
  pub segment : IsSegment bytes content.value
  pub fields : AreObjectFields content.value content.top content.bottom

-- the bytes are read so
abbrev pub IsReading : List ℕ → Reading → Type 0
IsReading bytes (read content) = IsContent bytes content
IsReading bytes (faulty fault) = IsSegmentFault bytes fault

-- each segment is read so
abbrev pub AreReadings : List (List ℕ) → List Reading → Type 0
AreReadings [] [] = Unit {0}
AreReadings [] (reading ∷ readings) = ⊥
AreReadings (bytes ∷ segments) [] = ⊥
AreReadings (bytes ∷ segments) (reading ∷ readings) = IsReading bytes reading × AreReadings segments readings

-- a set is read so; a loss or a refused set stays what it is
abbrev pub IsDeliveryRead : Delivery (List ℕ) → Delivery Reading → Type 0
IsDeliveryRead lost reading = reading ≡ lost
IsDeliveryRead (whole time size segments) reading =
    (readings : List Reading) × AreReadings segments readings × (reading ≡ whole time size readings)
IsDeliveryRead (refused time size fault) reading = reading ≡ refused time size fault

-- the sets and losses are read so, one after another
abbrev pub AreDeliveriesRead : List (Delivery (List ℕ)) → List (Delivery Reading) → Type 0
AreDeliveriesRead [] [] = Unit {0}
AreDeliveriesRead [] (reading ∷ readings) = ⊥
AreDeliveriesRead (delivery ∷ deliveries) [] = ⊥
AreDeliveriesRead (delivery ∷ deliveries) (reading ∷ readings) =
    IsDeliveryRead delivery reading × AreDeliveriesRead deliveries readings
