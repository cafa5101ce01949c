-- Bytes that were worked out by hand from the syntax tables of the standards, and what the definitions have to give for
-- them.
use Rattle.std.specs.Prelude.{◌≡◌, ℕ, true, false, List, [], ◌∷◌, ◌++◌, None, Ok}
use Rattle.sub_base.specs.declared.depth.Depth.TheVariants.{Two, Four, Eight}
use Rattle.stream_syntax.specs.Fields.{bytes_of, written}
use Rattle.stream_syntax.specs.Pes.{pes_of, written_header}
use Rattle.stream_syntax.specs.PixelCodes.{two_zeros, zeros, short_run, middle_run, long_run, spelled, ending, pixel_count}
use Rattle.stream_syntax.specs.Segments.{of_page, written_fields}
use Rattle.stream_syntax.specs.TransportPackets.{counter_of, control_of, has_error_flag, has_start_flag, payload_of, pid_of, packet_fault}
use Rattle.stream_syntax.specs.declared.page.PageEntry.{PageEntry}
use Rattle.stream_syntax.specs.declared.page.State.TheVariants.{Acquisition}

-- ---- a transport packet (ISO/IEC 13818-1, clause 2.4.3.2)

-- the front of a packet: PID 1A10 with a start flag, an adaptation field of two bytes behind its length, counter 11
unfoldable pub worked_packet : List ℕ
worked_packet = 0x47 ∷ 0x5A ∷ 0x10 ∷ 0x3B ∷ 0x02 ∷ 0x00 ∷ 0xFF ∷ 0xAA ∷ 0xBB ∷ []

-- the packet is read so
pub record IsPacketRead : Type 0 where
  pub pid : pid_of worked_packet ≡ 6672
  pub starts : has_start_flag worked_packet ≡ true
  pub is_undamaged : has_error_flag worked_packet ≡ false
  pub control : control_of worked_packet ≡ 3
  pub counter : counter_of worked_packet ≡ 11
  pub payload : payload_of worked_packet ≡ 0xAA ∷ 0xBB ∷ []
  pub is_taken : packet_fault 6672 worked_packet ≡ None

-- ---- the head of a PES packet (ISO/IEC 13818-1, clause 2.4.3.6)

-- a presentation time of 4,295,000,065 ticks: its parts of three, fifteen and fifteen bits are 4, 1 and 1, each before
-- a marker bit
unfoldable pub worked_head : List ℕ
worked_head =
    0x00 ∷ 0x00 ∷ 0x01 ∷ 0xBD ∷ 0x00 ∷ 0x0A ∷ 0x84 ∷ 0x80 ∷ 0x05 ∷ 0x29 ∷ 0x00 ∷ 0x03 ∷ 0x00
    ∷ 0x03 ∷ []

-- the head is written and read so
pub record IsHeadRead : Type 0 where
  pub is_written : written_header 4295000065 10 ≡ worked_head
  pub is_read : pes_of (worked_head ++ 0x20 ∷ 0x00 ∷ []) ≡ Ok (4295000065, [])

-- ---- pixel code strings (EN 300 743, clause 7.2.5.2)

-- two pixels of code 0 and the end of a string, in two bits, and thirty of code 3; nine of code 5 in four bits; three
-- of code 0 and of code 2 in eight
pub record AreCodesSpelled : Type 0 where
  pub two_pixels : spelled Two two_zeros ≡ 0 ∷ 0 ∷ 0 ∷ 0 ∷ 0 ∷ 1 ∷ []
  pub end_of_two_bits : ending Two ≡ 0 ∷ 0 ∷ 0 ∷ 0 ∷ 0 ∷ 0 ∷ []
  pub thirty_pixels : spelled Two (long_run 1 3) ≡ 0 ∷ 0 ∷ 0 ∷ 0 ∷ 1 ∷ 1 ∷ 0 ∷ 0 ∷ 0 ∷ 0 ∷ 0
      ∷ 0 ∷ 0 ∷ 1 ∷ 1 ∷ 1 ∷ []
  pub thirty_are_given : pixel_count Two (long_run 1 3) ≡ 30
  pub nine_pixels : spelled Four (middle_run 0 5) ≡ 0 ∷ 0 ∷ 0 ∷ 0 ∷ 1 ∷ 1 ∷ 1 ∷ 0 ∷ 0 ∷ 0
      ∷ 0 ∷ 0 ∷ 0 ∷ 1 ∷ 0 ∷ 1 ∷ []
  pub nine_are_given : pixel_count Four (middle_run 0 5) ≡ 9
  pub three_clear_pixels : bytes_of (spelled Eight (zeros 3)) ≡ 0x00 ∷ 0x03 ∷ []
  pub three_pixels : bytes_of (spelled Eight (short_run 3 2)) ≡ 0x00 ∷ 0x83 ∷ 0x02 ∷ []

-- ---- a page composition segment (EN 300 743, clause 7.2.2)

-- region 2 stands at column 60 and row 460
unfoldable pub worked_entry : PageEntry
worked_entry = record { region = 2; x = 60; y = 460 }

-- page 1, shown for ten seconds, version 3, an acquisition point, is written so
pub record IsPageWritten : Type 0 where
  pub is_written :
      bytes_of (written
      (written_fields 1
      (of_page (record { time_out = 10; version = 3; state = Acquisition; entries = worked_entry ∷ [] }))))
      ≡ 0x0F ∷ 0x10 ∷ 0x00 ∷ 0x01 ∷ 0x00 ∷ 0x08 ∷ 0x0A ∷ 0x37 ∷ 0x02 ∷ 0xFF ∷ 0x00 ∷ 0x3C
      ∷ 0x01 ∷ 0xCC ∷ []
