-- Bytes that were worked out by hand: the definitions compute what is said of them.
use Rattle.std.specs.Prelude.{refl}
use Rattle.stream_syntax.specs.Fields.{bytes_of, number_of, written}
use Rattle.stream_syntax.specs.PixelCodes.{bits, spelled, ending}
use Rattle.stream_syntax.specs.WorkedBytes.{worked_packet, worked_head, worked_entry, IsPacketRead, IsHeadRead, AreCodesSpelled, IsPageWritten}

pub packet_is_read : IsPacketRead
unfolding worked_packet
packet_is_read =
    record {
      pid = refl;
      starts = refl;
      is_undamaged = refl;
      control = refl;
      counter = refl;
      payload = refl;
      is_taken = refl;
    }

pub head_is_read : IsHeadRead
unfolding worked_head
head_is_read = record { is_written = refl; is_read = refl }

pub codes_are_spelled : AreCodesSpelled
unfolding spelled bits ending bytes_of number_of
codes_are_spelled =
    record {
      two_pixels = refl;
      end_of_two_bits = refl;
      thirty_pixels = refl;
      thirty_are_given = refl;
      nine_pixels = refl;
      nine_are_given = refl;
      three_clear_pixels = refl;
      three_pixels = refl;
    }

pub page_is_written : IsPageWritten
unfolding worked_entry bits bytes_of number_of written
page_is_written = record { is_written = refl }
