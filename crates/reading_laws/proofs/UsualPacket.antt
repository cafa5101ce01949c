-- A unit as a usual encoder makes it: the bytes of its packet are received as the contents that are shown.
use Rattle.std.proofs.Common.{◌≡◌, ℕ, zero, suc, true, List, [], ◌∷◌, map, None, reverse, refl, sym, subst, arith, nat_lt, All}
use Rattle.std.proofs.lemmas.Bool.Decides.{nat_tests}
use Rattle.std.specs.List.{list_all}
use Rattle.std.proofs.lemmas.List.Elements.{All-nil, All-cons}
use Rattle.sub_base.specs.declared.depth.Depth.TheVariants.{Two, Eight}
use Rattle.sub_base.specs.declared.profile.ProfileName.TheVariants.{Sd}
use Rattle.stream_syntax.specs.PixelBlocks.{string, line_end, AreParts}
use Rattle.stream_syntax.specs.PixelCodes.{bits, bits_of, spelled, ending, pixel, IsCode}
use Rattle.decoder_model.specs.Readings.{read, IsContent, AreDeliveriesRead}
use Rattle.decoder_model.specs.Received.{HasReceived, IsFramed, for_page}
use Rattle.decoder_model.specs.Sets.{whole}
use Rattle.decoder_model.specs.UsualEncoder.{usual_packet, usual_segments, usual_page, usual_region, usual_object, usual_end, usual_contents, usual_delivery, IsUsualSetShown}
use Rattle.stream_syntax.specs.SegmentTests.{body_tests, body_of, top_in, bottom_in, AreBlocks}
use Rattle.stream_syntax.specs.Segments.{IsSegment}
use Rattle.stream_syntax.specs.Tests.{byte_at, first_fault}
use Rattle.segments.specs.Reading.{value_in}
use Rattle.segments.proofs.Shapes.{AreBytes}
use Rattle.reading_laws.proofs.SegmentsRead.{are_blocks, segment_is}

-- numbers that are tested are bytes
are_bytes : (bytes : List ℕ) → list_all (λ (byte : ℕ). nat_lt byte 256) bytes ≡ true → AreBytes bytes
are_bytes [] small i = omega arith
are_bytes (byte ∷ bytes) small zero = grind (arith, nat_tests, small)
are_bytes (byte ∷ bytes) small (suc i) = are_bytes bytes (grind (arith, nat_tests, small)) i

-- ---- the sub-blocks of its object

codes_are : All (IsCode Two) (pixel 1 ∷ pixel 3 ∷ [])
codes_are =
    All-cons (IsCode Two) (pixel 1) (pixel 3 ∷ []) (omega arith, omega arith)
    (All-cons (IsCode Two) (pixel 3) [] (omega arith, omega arith) (All-nil (IsCode Two)))

top_is : AreParts Eight (string Two (pixel 1 ∷ pixel 3 ∷ []) ∷ line_end ∷ []) (0x10 ∷ 0x70 ∷ 0x00 ∷ 0xF0 ∷ [])
unfolding bits bits_of spelled ending
top_is = (
  0x10 ∷ 0x70 ∷ 0x00 ∷ [],
  0xF0 ∷ [],
  refl,
  (
    omega arith,
    0x70 ∷ 0x00 ∷ [],
    refl,
    record { each = codes_are; fill = 0 ∷ 0 ∷ 0 ∷ 0 ∷ 0 ∷ 0 ∷ []; text = refl; short = omega arith },
  ),
  (0xF0 ∷ [], [], refl, refl, refl),
)

-- ---- its segments

-- bytes that pass their tests are a segment with the value in them
whole_in : (bytes : List ℕ) → list_all (λ (byte : ℕ). nat_lt byte 256) bytes ≡ true → IsFramed bytes
    → first_fault (body_tests (byte_at 1 bytes) (body_of bytes)) ≡ None
    → (byte_at 1 bytes ≡ 19 → AreBlocks (top_in (body_of bytes)) (bottom_in (body_of bytes)))
    → IsSegment bytes (value_in (byte_at 1 bytes) (body_of bytes))
whole_in bytes small framed passes blocks = segment_is bytes (are_bytes bytes small) framed passes blocks

abbrev page_bytes : List ℕ
page_bytes =
    0x0F ∷ 0x10 ∷ 0x00 ∷ 0x01 ∷ 0x00 ∷ 0x08 ∷ 0x0A ∷ 0x08 ∷ 0x01 ∷ 0x00 ∷ 0x00 ∷ 0x00 ∷ 0x00 ∷ 0x00 ∷ []

page_is : IsContent page_bytes usual_page
unfolding usual_page
page_is =
    record {
      segment =
          whole_in page_bytes refl (record { framed = refl; whole = refl }) refl
          (λ object. absurd (omega (arith, object)));
      fields = (refl, refl);
    }

abbrev region_bytes : List ℕ
region_bytes =
    0x0F ∷ 0x11 ∷ 0x00 ∷ 0x01 ∷ 0x00 ∷ 0x10 ∷ 0x01 ∷ 0x08 ∷ 0x00 ∷ 0x02 ∷ 0x00
    ∷ 0x01 ∷ 0x24 ∷ 0x00 ∷ 0x00 ∷ 0x00 ∷ 0x00 ∷ 0x05 ∷ 0x00 ∷ 0x00 ∷ 0x00 ∷ 0x00 ∷ []

region_is : IsContent region_bytes usual_region
unfolding usual_region
region_is =
    record {
      segment =
          whole_in region_bytes refl (record { framed = refl; whole = refl }) refl
          (λ object. absurd (omega (arith, object)));
      fields = (refl, refl);
    }

abbrev object_bytes : List ℕ
object_bytes =
    0x0F ∷ 0x13 ∷ 0x00 ∷ 0x01 ∷ 0x00 ∷ 0x0B ∷ 0x00 ∷ 0x05 ∷ 0x00 ∷ 0x00 ∷ 0x04
    ∷ 0x00 ∷ 0x00 ∷ 0x10 ∷ 0x70 ∷ 0x00 ∷ 0xF0 ∷ []

object_is : IsContent object_bytes usual_object
unfolding usual_object
object_is =
    record {
      segment =
          whole_in object_bytes refl (record { framed = refl; whole = refl }) refl
          (λ object. are_blocks (0x10 ∷ 0x70 ∷ 0x00 ∷ 0xF0 ∷ []) []
          (record {
            top_parts = string Two (pixel 1 ∷ pixel 3 ∷ []) ∷ line_end ∷ [];
            top_are = top_is;
            bottom_parts = [];
            bottom_are = refl;
          }));
      fields = (top_is, refl);
    }

abbrev end_bytes : List ℕ
end_bytes = 0x0F ∷ 0x80 ∷ 0x00 ∷ 0x01 ∷ 0x00 ∷ 0x00 ∷ []

end_is : IsContent end_bytes usual_end
unfolding usual_end
end_is =
    record {
      segment =
          whole_in end_bytes refl (record { framed = refl; whole = refl }) refl
          (λ object. absurd (omega (arith, object)));
      fields = (refl, refl);
    }

-- ---- its packet

pub usual_read : IsUsualSetShown
    → HasReceived (for_page Sd 256 1 0) true (usual_packet ∷ []) (usual_delivery ∷ [])
unfolding usual_segments usual_delivery
usual_read shown =
    subst (λ sets. AreDeliveriesRead (reverse sets) (usual_delivery ∷ [])) (sym shown.set) (
      (
        read usual_page ∷ read usual_region ∷ read usual_object ∷ read usual_end ∷ [],
        (page_is, (region_is, (object_is, (end_is, tt)))),
        refl,
      ),
      tt,
    )

pub usual_reads : usual_delivery ≡ whole 90000 84 (map read usual_contents)
unfolding usual_delivery usual_contents
usual_reads = refl
