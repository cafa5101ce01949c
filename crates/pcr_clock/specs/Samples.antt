-- The samples of a programme's clock that packets carry: program_clock_reference of an adaptation field (ISO/IEC
-- 13818-1, 2.4.3.4 and 2.4.3.5), in units of 27 MHz.
use Rattle.std.specs.Prelude.{ℕ, ◌+◌, ◌-◌, ◌*◌, ◌/◌, ◌%◌, ◌==◌, ◌&&◌, not, nat_le, nat_lt, Bool, if◌then◌else◌, List, [], ◌∷◌, slice_index, Option, Some, None}
use Rattle.stream_syntax.specs.TransportPackets.{control_of, field_length_of, has_error_flag, has_sync, pid_of}
use Rattle.pcr_clock.specs.declared.sample.TheConstants.{CLOCK_LIMIT, CLOCK_ROUND}

-- ---- one packet

-- an adaptation field that is long enough for its flags and a PCR, and has PCR_flag
abbrev pub has_clock : List ℕ → Bool
has_clock packet =
    nat_le 2 (control_of packet) && nat_le 7 (field_length_of packet) && (slice_index packet 5 / 16 % 2 == 1)

-- program_clock_reference_base, 33 bits
abbrev pub base_of : List ℕ → ℕ
base_of packet =
    slice_index packet 6 * 33554432 + slice_index packet 7 * 131072 + slice_index packet 8 * 512
    + slice_index packet 9 * 2 + slice_index packet 10 / 128

-- program_clock_reference_extension, 9 bits behind six reserved ones
abbrev pub extension_of : List ℕ → ℕ
extension_of packet = slice_index packet 10 % 2 * 256 + slice_index packet 11

-- the sample of a packet of that PID, which is not marked as damaged
abbrev pub sample_of : ℕ → List ℕ → Option ℕ
sample_of pid packet =
    if has_sync packet && (pid_of packet == pid) && not (has_error_flag packet) && has_clock packet
    then Some (base_of packet * 300 + extension_of packet) else None

-- ---- packets

-- how far a sample is ahead of a time, modulo 2 to the 33 times 300
abbrev pub ahead_of : ℕ → ℕ → ℕ
ahead_of from sample = (sample + (CLOCK_ROUND - from % CLOCK_ROUND)) % CLOCK_ROUND

-- the time of a sample behind the time of the last one: a number without end that does not fall, up to a limit, behind
-- which it stays
abbrev pub time_behind : Option ℕ → ℕ → ℕ
time_behind None sample = sample
time_behind (Some last) sample =
    if nat_lt (last + ahead_of last sample) CLOCK_LIMIT then last + ahead_of last sample else last

-- the times of samples behind the last time; none where a packet has no sample
abbrev pub times_behind : Option ℕ → List (Option ℕ) → List (Option ℕ)
times_behind last [] = []
times_behind last (None ∷ samples) = None ∷ times_behind last samples
times_behind last (Some sample ∷ samples) =
    Some (time_behind last sample) ∷ times_behind (Some (time_behind last sample)) samples
