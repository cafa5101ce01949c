-- The sections that stand in the packets of a PID (ISO/IEC 13818-1, 2.4.4), doubles passed over. The packets before a
-- packet are given the latest first.
use Rattle.std.specs.Prelude.{ℕ, zero, suc, ◌==◌, nat_lt, not, Bool, ◌&&◌, ◌||◌, if◌then◌else◌, List, [], ◌∷◌, ◌++◌, length, take, drop, find, Option, Some, None, option_map}
use Rattle.stream_syntax.specs.Units.{Succession, Next, Again, Missing, succession}
use Rattle.stream_syntax.specs.TransportPackets.{pid_of, has_error_flag, has_start_flag, has_payload, has_bad_field, control_of, counter_of, payload_of}
use Rattle.psi_tables.specs.Sections.{whole_section}

-- a byte that begins no section: stuffing follows, in place of a table id
abbrev pub NO_TABLE : ℕ
NO_TABLE = 255

-- the bytes of the longest section: three, and as many as a number of 12 bits says
abbrev pub LONGEST_SECTION : ℕ
LONGEST_SECTION = 4098

-- ---- sections in bytes

-- sections that end, in order, and the bytes of the section that has not ended behind them (the section in hand)
pub record Ended : Type 0 where
  pub sections : List (List ℕ)
  pub hand : Option (List ℕ)

-- no section ends, and none is in hand
abbrev pub none_ended : Ended
none_ended = record { sections = []; hand = None }

-- bytes that a section begins: it ends in them, and what follows it is passed over, or it is in hand
abbrev pub section_or_hand : List ℕ → Option (List ℕ) → Ended
section_or_hand bytes None = record { sections = []; hand = Some bytes }
section_or_hand bytes (Some section) = record { sections = section ∷ []; hand = None }

-- the section in hand with more bytes behind it
abbrev pub grown : Option (List ℕ) → List ℕ → Ended
grown None more = none_ended
grown (Some bytes) more = section_or_hand (bytes ++ more) (whole_section (bytes ++ more))

-- a section and what is behind it, or a section in hand
abbrev pub with_section : (List ℕ → Ended) → List ℕ → Option (List ℕ) → Ended
with_section behind bytes None = record { sections = []; hand = Some bytes }
with_section behind bytes (Some section) = record {
  sections = section ∷ (behind (drop (length section) bytes)).sections;
  hand = (behind (drop (length section) bytes)).hand;
}

-- sections that stand one behind another, up to stuffing; there are no more of them than bytes
abbrev pub following : ℕ → List ℕ → Ended
following zero bytes = none_ended
following (suc most) [] = none_ended
following (suc most) (byte ∷ bytes) =
    if byte == NO_TABLE then none_ended
    else with_section (following most) (byte ∷ bytes) (whole_section (byte ∷ bytes))

-- ---- sections in packets

-- a packet of which nothing is used: it is marked as damaged, or its control or its adaptation field is faulty
abbrev pub is_broken : List ℕ → Bool
is_broken packet = has_error_flag packet || control_of packet == 0 || has_bad_field packet

-- a payload packet of the PID, whose counter counts
abbrev pub counts : ℕ → List ℕ → Bool
counts pid packet = pid_of packet == pid && (not (is_broken packet) && has_payload packet)

-- the counter of the last payload packet of the PID
abbrev pub last_counter : ℕ → List (List ℕ) → Option ℕ
last_counter pid before = option_map counter_of (find (counts pid) before)

-- a payload with the start flag: its first byte, the pointer, says how many bytes of the section in hand follow. A
-- section in hand that they do not end is dropped; behind them sections follow one another
abbrev pub started : Option (List ℕ) → List ℕ → Ended
started hand [] = none_ended
started hand (pointer ∷ payload) =
    if nat_lt (length payload) pointer then none_ended
    else record {
      sections = (grown hand (take pointer payload)).sections
          ++ (following (length payload) (drop pointer payload)).sections;
      hand = (following (length payload) (drop pointer payload)).hand;
    }

-- the sections that end with a payload: it has the start flag, or goes on with the section in hand
abbrev pub with_payload : Option (List ℕ) → Bool → List ℕ → Ended
with_payload hand start payload = if start then started hand payload else grown hand payload

-- a double changes nothing; behind a gap the section in hand is dropped
abbrev pub by_counter : Option (List ℕ) → Succession → Bool → List ℕ → Ended
by_counter hand Next start payload = with_payload hand start payload
by_counter hand Again start payload = record { sections = []; hand = hand }
by_counter hand (Missing expected found) start payload = with_payload None start payload

-- the sections that end in a packet, and the section in hand behind it, by the last counter and the section in hand
unfoldable pub ended_with : ℕ → Option ℕ → Option (List ℕ) → List ℕ → Ended
ended_with pid last hand packet =
    if not (pid_of packet == pid) then record { sections = []; hand = hand }
    else if is_broken packet then none_ended
    else if not (has_payload packet) then record { sections = []; hand = hand }
    else by_counter hand (succession last (counter_of packet)) (has_start_flag packet) (payload_of packet)

-- the section in hand behind packets, the latest first
unfoldable pub hand_behind : ℕ → List (List ℕ) → Option (List ℕ)
hand_behind pid [] = None
hand_behind pid (packet ∷ before) = (ended_with pid (last_counter pid before) (hand_behind pid before) packet).hand

-- the sections that end in a packet, by the packets before it
abbrev pub sections_at : ℕ → List (List ℕ) → List ℕ → List (List ℕ)
sections_at pid before packet =
    (ended_with pid (last_counter pid before) (hand_behind pid before) packet).sections

-- the sections that end in packets, in order, where these packets are before them
abbrev pub sections_behind : ℕ → List (List ℕ) → List (List ℕ) → List (List ℕ)
sections_behind pid before [] = []
sections_behind pid before (packet ∷ packets) =
    sections_at pid before packet ++ sections_behind pid (packet ∷ before) packets

-- the sections of a PID in the packets of a stream
abbrev pub sections_of : ℕ → List (List ℕ) → List (List ℕ)
sections_of pid packets = sections_behind pid [] packets
