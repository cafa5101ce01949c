-- What a packet brings to the coded data buffer, by its event.
use Rattle.std.proofs.Common.{◌≡◌, ℕ, Bool, true, false, cond, not, ◌==◌, ◌&&◌, List, ◌++◌, length, Option, Some, None, option_map, refl, ap}
use Rattle.stream_syntax.specs.TransportPackets.{pid_of, has_error_flag, has_payload, has_start_flag, counter_of, payload_of}
use Rattle.stream_syntax.specs.Units.{Fate, Waits, Whole, Over, UnitPart, Breaks, Succession, Next, Again, Missing, succession, fate_of, followed, joined, payload_part, payload_event, part_after, event_after, last_counter, hand_after, part_of, event_at}
use Rattle.stream_syntax.specs.declared.transport.Event.{Event}
use Rattle.stream_syntax.specs.declared.transport.Event.TheVariants as event
use Rattle.decoder_model.specs.Arrivals.{is_over, ends_too_long}
use Rattle.decoder_model.specs.PacketArrivals.{bytes_of_part}
use Rattle.ts_packets.specs.Brought.{bytes_by, too_long_by}

-- what is said of one packet
record Brings (size : ℕ) (hand : Option (List ℕ)) (packet : List ℕ) (part : Option UnitPart)
    (event : Event) : Type 0 where
  bytes : bytes_by event packet ≡ bytes_of_part hand part
  too_long : too_long_by size event packet ≡ is_over (option_map (fate_of size) (joined hand part))

-- a packet that follows with this unit
follows : (size : ℕ) (packet : List ℕ) (fate : Fate)
    → (bytes_by (followed size fate) packet ≡ length (payload_of packet))
    × (too_long_by size (followed size fate) packet ≡ is_over (Some fate))
follows size packet Waits = (refl, refl)
follows size packet (Whole bytes) = (refl, refl)
follows size packet (Over need) = (refl, refl)

next_brings : (size : ℕ) (hand : Option (List ℕ)) (packet : List ℕ) (start : Bool)
    → has_start_flag packet ≡ start
    → Brings size hand packet (payload_part Next start (payload_of packet))
    (payload_event size hand Next start (payload_of packet))
next_brings size None packet true starts =
    let both = follows size packet (fate_of size (payload_of packet)) in record { bytes = both.0; too_long = both.1 }
next_brings size (Some bytes) packet true starts = record {
  bytes = ap (λ b. cond b (length (payload_of packet)) 0) starts;
  too_long = ap (λ b. b && is_over (Some (fate_of size (payload_of packet)))) starts;
}
next_brings size None packet false starts = record { bytes = refl; too_long = refl }
next_brings size (Some bytes) packet false starts =
    let both = follows size packet (fate_of size (bytes ++ payload_of packet)) in
    record { bytes = both.0; too_long = both.1 }

payload_brings : (size : ℕ) (hand : Option (List ℕ)) (packet : List ℕ) (order : Succession) (start : Bool)
    → has_start_flag packet ≡ start
    → Brings size hand packet (payload_part order start (payload_of packet))
    (payload_event size hand order start (payload_of packet))
payload_brings size hand packet Again start starts = record { bytes = refl; too_long = refl }
payload_brings size hand packet Next start starts = next_brings size hand packet start starts
payload_brings size hand packet (Missing expected found) true starts = record {
  bytes = ap (λ b. cond b (length (payload_of packet)) 0) starts;
  too_long = ap (λ b. b && is_over (Some (fate_of size (payload_of packet)))) starts;
}
payload_brings size hand packet (Missing expected found) false starts = record {
  bytes = ap (λ b. cond b (length (payload_of packet)) 0) starts;
  too_long = ap (λ b. b && is_over (Some (fate_of size (payload_of packet)))) starts;
}

brings : (pid size : ℕ) (last : Option ℕ) (hand : Option (List ℕ)) (packet : List ℕ)
    → Brings size hand packet (part_after pid last packet) (event_after pid size last hand packet)
unfolding part_after event_after
brings pid size last hand packet =
    by_pid (not (pid_of packet == pid)) (has_error_flag packet) (not (has_payload packet))
  where
    by_pid : (other damaged empty : Bool) → Brings size hand packet
        (cond other None
        (cond damaged (Some Breaks)
        (cond empty None
        (payload_part (succession last (counter_of packet)) (has_start_flag packet) (payload_of packet)))))
        (cond other event.Other
        (cond damaged event.ErrorFlag
        (cond empty event.NoPayload
        (payload_event size hand (succession last (counter_of packet)) (has_start_flag packet)
        (payload_of packet)))))
    by_pid true damaged empty = record { bytes = refl; too_long = refl }
    by_pid false true empty = record { bytes = refl; too_long = refl }
    by_pid false false true = record { bytes = refl; too_long = refl }
    by_pid false false false =
        payload_brings size hand packet (succession last (counter_of packet)) (has_start_flag packet) refl

-- how many bytes a packet brings behind others, and whether it ends a unit as too long
pub bytes_brought : (pid size : ℕ) (before : List (List ℕ)) (packet : List ℕ)
    → bytes_by (event_at pid size before packet) packet
    ≡ bytes_of_part (hand_after pid size before) (part_of pid before packet)
bytes_brought pid size before packet =
    (brings pid size (last_counter pid before) (hand_after pid size before) packet).bytes

pub too_long_brought : (pid size : ℕ) (before : List (List ℕ)) (packet : List ℕ)
    → too_long_by size (event_at pid size before packet) packet ≡ ends_too_long size pid before packet
too_long_brought pid size before packet =
    (brings pid size (last_counter pid before) (hand_after pid size before) packet).too_long
