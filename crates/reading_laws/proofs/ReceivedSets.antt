-- Each segment of the display sets in packets of bytes is of bytes, and one by its head.
use Rattle.std.proofs.Common.{◌≡◌, ℕ, zero, suc, Bool, List, [], ◌∷◌, length, take, filter, Option, Some, None, sym, subst}
use Rattle.std.specs.Prelude.{flat_map}
use Rattle.std.specs.List.{AllByRecursion, prefix_len}
use Rattle.std.specs.Option.{is_none}
use Rattle.stream_syntax.specs.DataField.{Frame, AreFrames, no_more, cut_off, one_more, frames_of}
use Rattle.stream_syntax.specs.Pes as pes
use Rattle.stream_syntax.specs.SegmentTests.{frame_tests, segment_size}
use Rattle.stream_syntax.specs.Tests.{first_fault}
use Rattle.stream_syntax.specs.TransportPackets.{packet_fault}
use Rattle.stream_syntax.specs.Units.{each_after, event_at, unit_at, is_loss}
use Rattle.stream_syntax.specs.declared.pes.PesFault.{PesFault}
use Rattle.decoder_model.specs.declared.pages.Pages.{Pages}
use Rattle.decoder_model.specs.Arrivals.{loss, refused_unit, aside, is_passed_over, unit_from, arrival_of_unit, losses_at, units_at, arrivals_at, packets_taken, arrivals_of}
use Rattle.decoder_model.specs.Frames.{counts_for}
use Rattle.decoder_model.specs.Received.{IsFramed}
use Rattle.decoder_model.specs.Sets.{runs_of, has_ended, sets_of}
use Rattle.stream_syntax.proofs.FrameLaws.{frames_are}
use Rattle.decoder_model.proofs.Lists.{all-append}
use Rattle.decoder_model.proofs.ReceivedSegments.{front_framed, FrameHas, ArrivalHas, unit_of_frames, runs_have, DeliveryHas, sets_have}
use Rattle.reading_laws.proofs.ReceivedBytes.{either_way, OfSome, OfBytes, bytes_behind, bytes_ahead, each_all, unit_bytes}

-- ---- of any items

all_ahead : {X : Type 0} (P : X → Type 0) (n : ℕ) (xs : List X) → AllByRecursion P xs
    → AllByRecursion P (take n xs)
all_ahead P zero xs h = tt
all_ahead P (suc n) [] h = tt
all_ahead P (suc n) (x ∷ xs) h = (h.0, all_ahead P n xs h.1)

all_flat : {X : Type 0} (P : X → Type 0) (lists : List (List X)) → AllByRecursion (AllByRecursion P) lists
    → AllByRecursion P (flat_map (λ (xs : List X). xs) lists)
all_flat P [] h = tt
all_flat P (xs ∷ lists) h = all-append P xs (flat_map (λ (ys : List _). ys) lists) h.0 (all_flat P lists h.1)

-- ---- frames

-- a segment of bytes that is one by its head
pub record IsWhole (bytes : List ℕ) : Type 0 where
  pub bytes_are : OfBytes bytes
  pub is_framed : IsFramed bytes

front_whole : (bytes : List ℕ) → OfBytes bytes → first_fault (frame_tests bytes) ≡ None
    → IsWhole (take (segment_size bytes) bytes)
front_whole bytes h none =
    record { bytes_are = bytes_ahead (segment_size bytes) bytes h; is_framed = front_framed bytes none }

-- each segment among the frames that stand in bytes
frames_whole : {bytes : List ℕ} {frames : List Frame} → AreFrames bytes frames → OfBytes bytes
    → AllByRecursion (FrameHas IsWhole) frames
frames_whole (no_more ends are) h = subst (AllByRecursion (FrameHas IsWhole)) (sym are) tt
frames_whole (cut_off fault ends is are) h = subst (AllByRecursion (FrameHas IsWhole)) (sym are) (tt, tt)
frames_whole {bytes} (one_more rest ends is behind are) h =
    subst (AllByRecursion (FrameHas IsWhole)) (sym are)
    (front_whole bytes h is, frames_whole behind (bytes_behind (segment_size bytes) bytes h))

counting : (pages : Pages) (frames : List Frame) → AllByRecursion (FrameHas IsWhole) frames
    → AllByRecursion (FrameHas IsWhole) (filter (counts_for pages) frames)
counting pages [] h = tt
counting pages (frame ∷ frames) h =
    either_way (AllByRecursion (FrameHas IsWhole)) (counts_for pages frame)
    (frame ∷ filter (counts_for pages) frames) (filter (counts_for pages) frames) (h.0, counting pages frames h.1)
    (counting pages frames h.1)

-- ---- arrivals

unit_of_pes : (pages : Pages) (place size : ℕ) (fault : Option PesFault) (found : ℕ × List ℕ) → OfBytes found.1
    → ArrivalHas IsWhole (unit_from pages place size (pes.unless_fault fault found))
unit_of_pes pages place size None found h =
    unit_of_frames IsWhole place size found.0 (filter (counts_for pages) (frames_of found.1))
    (counting pages (frames_of found.1) (frames_whole (frames_are found.1) h))
unit_of_pes pages place size (Some fault) found h =
    either_way (ArrivalHas IsWhole) (is_passed_over fault) aside refused_unit tt tt

unit_arrives : (pages : Pages) (place : ℕ) (bytes : List ℕ) → OfBytes bytes
    → ArrivalHas IsWhole (arrival_of_unit pages place bytes)
unit_arrives pages place bytes h =
    unit_of_pes pages place (length bytes) (pes.pes_fault bytes) (pes.pts_in bytes, pes.segments_in bytes)
    (bytes_behind _ bytes h)

ended_arrives : (pages : Pages) (place : ℕ) (ended : Option (List ℕ)) → OfSome OfBytes ended
    → AllByRecursion (ArrivalHas IsWhole) (units_at pages place ended)
ended_arrives pages place None h = tt
ended_arrives pages place (Some bytes) h = (unit_arrives pages place bytes h, tt)

packet_arrives : (size pid : ℕ) (pages : Pages) (before : List (List ℕ)) (packet : List ℕ)
    → AllByRecursion OfBytes before
    → OfBytes packet → AllByRecursion (ArrivalHas IsWhole) (arrivals_at size pid pages before packet)
packet_arrives size pid pages before packet earlier h =
    all-append (ArrivalHas IsWhole) (losses_at (event_at pid size before packet))
    (units_at pages (length before) (unit_at pid size before packet))
    (either_way (AllByRecursion (ArrivalHas IsWhole)) (is_loss (event_at pid size before packet)) (loss ∷ []) []
    (tt, tt) tt)
    (ended_arrives pages (length before) (unit_at pid size before packet) (unit_bytes pid size before packet earlier h))

all_arrive : (size pid : ℕ) (pages : Pages) (packets : List (List ℕ)) → AllByRecursion OfBytes packets
    → AllByRecursion (ArrivalHas IsWhole) (arrivals_of size pid pages packets)
unfolding arrivals_of
all_arrive size pid pages packets h =
    all_flat (ArrivalHas IsWhole) (each_after (arrivals_at size pid pages) [] (packets_taken pid packets))
    (each_all (AllByRecursion (ArrivalHas IsWhole)) (arrivals_at size pid pages) (packet_arrives size pid pages) []
    (packets_taken pid packets) tt
    (all_ahead OfBytes (prefix_len (λ packet. is_none (packet_fault pid packet)) packets) packets h))

-- ---- sets

-- each segment of the sets in packets of bytes
pub received_whole : (coded pid : ℕ) (pages : Pages) (ended : Bool) (packets : List (List ℕ))
    → AllByRecursion OfBytes packets
    → AllByRecursion (DeliveryHas IsWhole) (sets_of coded pid pages ended packets)
unfolding sets_of
received_whole coded pid pages ended packets h =
    sets_have IsWhole coded (has_ended ended pid packets) (runs_of (arrivals_of coded pid pages packets))
    (runs_have IsWhole (arrivals_of coded pid pages packets) (all_arrive coded pid pages packets h))
