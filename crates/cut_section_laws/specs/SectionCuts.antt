-- A section that is cut over packets of a PID, in any way (ISO/IEC 13818-1, 2.4.4; of packets 2.4.3.2 to 2.4.3.5). The
-- packets before a packet are given the latest first.
use Rattle.std.specs.Prelude.{◌≡◌, ◌≢◌, ℕ, ◌+◌, ◌-◌, ◌%◌, ◌≤◌, ◌⊎◌, ◌==◌, ◌&&◌, not, Bool, true, false, if◌then◌else◌, List, [], ◌∷◌, ◌++◌, length, replicate, Option, Some, None}
use Rattle.std.specs.List.{concat, AllByRecursion}
use Rattle.stream_syntax.specs.Tests.{byte_at}
use Rattle.stream_syntax.specs.TransportPackets.{pid_of, has_error_flag, has_start_flag, has_payload, has_bad_field, control_of, counter_of, payload_of}
use Rattle.psi_tables.specs.Sections.{whole_section}
use Rattle.section_reader.specs.Sections.{sections_at}

-- ---- sections and packets

-- one whole section: it has as many bytes as its section_length says, and another table_id than 0xFF, which is
-- forbidden: stuffing begins with it
pub record IsWholeSection (section : List ℕ) : Type 0 where
  pub whole : whole_section section ≡ Some section
  pub named : byte_at 0 section ≢ 0xFF

-- nothing of the packet is damaged: its transport_error_indicator is not set, and its adaptation field ends within it
pub record IsUndamaged (packet : List ℕ) : Type 0 where
  pub unmarked : has_error_flag packet ≡ false
  pub fitting : has_bad_field packet ≡ false

-- a packet of the PID with these bytes as its payload, with payload_unit_start_indicator or without
pub record Carries (pid : ℕ) (start : Bool) (bytes packet : List ℕ) : Type 0 where
  pub own : pid_of packet ≡ pid
  pub sound : IsUndamaged packet
  pub full : has_payload packet ≡ true
  pub begins : has_start_flag packet ≡ start
  pub payload : payload_of packet ≡ bytes

-- a payload that begins with a pointer_field: it says how many bytes it passes, and behind these the first section
-- stands that begins in the packet
abbrev pub pointed : List ℕ → List ℕ → List ℕ
pointed passed bytes = length passed ∷ passed ++ bytes

-- ---- counters

-- the packet counts: it is one of the PID with a payload, and nothing of it is damaged
abbrev pub is_counted : ℕ → List ℕ → Bool
is_counted pid packet =
    (pid_of packet == pid) && (has_payload packet && (not (has_error_flag packet) && not (has_bad_field packet)))

-- the continuity_counter of the last packet that counts
abbrev pub counter_before : ℕ → List (List ℕ) → Option ℕ
counter_before pid [] = None
counter_before pid (packet ∷ before) =
    if is_counted pid packet then Some (counter_of packet) else counter_before pid before

-- a packet that adds nothing, where the last that counts has this counter: one of another PID, whatever stands in it;
-- one with an adaptation field alone (adaptation_field_control 2); and a double, which has the same counter
abbrev pub AddsNothing : ℕ → Option ℕ → List ℕ → Type 0
AddsNothing pid last packet =
    (pid_of packet ≢ pid)
    ⊎ (((pid_of packet ≡ pid) × IsUndamaged packet × (control_of packet ≡ 2))
    ⊎ ((pid_of packet ≡ pid) × IsUndamaged packet × (has_payload packet ≡ true) × (last ≡ Some (counter_of packet))))

-- the packet's counter is the next one, modulo 16
abbrev pub HasNextCounter : Option ℕ → List ℕ → Type 0
HasNextCounter None packet = ⊥
HasNextCounter (Some counter) packet = counter_of packet ≡ (counter + 1) % 16

-- ---- cuts

-- the packet carries the last piece of a section: as the front of its payload, or, where others begin in it, before the
-- place to which the pointer_field points
abbrev pub EndsIn : ℕ → List ℕ → List ℕ → Type 0
EndsIn pid piece packet =
    ((rest : List ℕ) × Carries pid false (piece ++ rest) packet)
    ⊎ ((rest next : List ℕ) × Carries pid true (pointed (piece ++ rest) next) packet)

-- behind a packet with this counter packets carry these pieces of a section, one after another: each but the last is a
-- whole payload without payload_unit_start_indicator, the counters go on, and other packets stand anywhere between
abbrev pub GoesOn : ℕ → Option ℕ → List (List ℕ) → List (List ℕ) → Type 0
GoesOn pid last pieces [] = ⊥
GoesOn pid last [] (packet ∷ packets) = ⊥
GoesOn pid last (piece ∷ []) (packet ∷ packets) =
    (AddsNothing pid last packet × GoesOn pid last (piece ∷ []) packets)
    ⊎ ((packets ≡ []) × (1 ≤ length piece) × HasNextCounter last packet × EndsIn pid piece packet)
GoesOn pid last (piece ∷ second ∷ pieces) (packet ∷ packets) =
    (AddsNothing pid last packet × GoesOn pid last (piece ∷ second ∷ pieces) packets)
    ⊎ ((1 ≤ length piece) × HasNextCounter last packet × Carries pid false piece packet
    × GoesOn pid (Some (counter_of packet)) (second ∷ pieces) packets)

-- ---- what comes of them

-- the sections that end in each packet of a list, by those before it
abbrev pub sections_by_packet : ℕ → List (List ℕ) → List (List ℕ) → List (List (List ℕ))
sections_by_packet pid before [] = []
sections_by_packet pid before (packet ∷ packets) =
    sections_at pid before packet ∷ sections_by_packet pid (packet ∷ before) packets

-- nothing follows, or stuffing
abbrev pub IsStuffing : List ℕ → Type 0
IsStuffing bytes = (bytes ≡ []) ⊎ (byte_at 0 bytes ≡ 0xFF)

-- sections that stand whole in one payload, one behind another from the place to which the pointer_field points, come
-- at this packet, whatever came before it, all of them and in order: behind at most one that ends before that place,
-- and before any that stand behind them. Where nothing or stuffing does, no other comes
abbrev pub WholeInOne : ℕ → Type 0
WholeInOne pid =
    (before sections : List (List ℕ)) (packet passed rest : List ℕ) → AllByRecursion IsWholeSection sections
    → counter_before pid before ≢ Some (counter_of packet)
    → Carries pid true (pointed passed (concat sections ++ rest)) packet
    → (ended later : List (List ℕ)) × (length ended ≤ 1) × (IsStuffing rest → later ≡ [])
    × (sections_at pid before packet ≡ ended ++ sections ++ later)

-- a section that begins at the place to which a pointer_field points, or behind others that stand whole from there on,
-- and goes on in the packets behind it, comes whole at the last of these, whatever came before it and however it is
-- cut: before any that begin there. At the first packet those come that end before it, and at the packets between none
abbrev pub EveryCutting : ℕ → Type 0
EveryCutting pid =
    (before packets earlier pieces : List (List ℕ)) (first passed front section : List ℕ) → IsWholeSection section
    → section ≡ front ++ concat pieces → 1 ≤ length front → AllByRecursion IsWholeSection earlier
    → counter_before pid before ≢ Some (counter_of first)
    → Carries pid true (pointed passed (concat earlier ++ front)) first
    → GoesOn pid (Some (counter_of first)) pieces packets
    → (ended later : List (List ℕ)) × (length ended ≤ 1)
    × (sections_by_packet pid before (first ∷ packets)
    ≡ (ended ++ earlier) ∷ replicate (length packets - 1) [] ++ (section ∷ later) ∷ [])
