-- How a record or line is quoted in a sentence.
use Rattle.std.specs.Prelude.{ℕ, ◌+◌, ◌-◌, ◌==◌, nat_lt, nat_le, Bool, not, ◌&&◌, ◌||◌, if◌then◌else◌, List, [], ◌++◌, length, map, take, codes, slice_index}
use Rattle.std.specs.List.{range_with_len}

-- the byte stands within a character of UTF-8, behind its first byte
abbrev pub is_within : ℕ → Bool
is_within byte = nat_le 128 byte && nat_lt byte 192

-- a control character of ASCII
abbrev pub is_low_control : ℕ → Bool
is_low_control byte = nat_lt byte 32 || byte == 127

-- the second byte of a control character behind ASCII, U+0080 to U+009F, of which the first is 194 in UTF-8
abbrev pub is_high_control : ℕ → Bool
is_high_control byte = nat_le 128 byte && nat_lt byte 160

-- the byte at that place is a control character, or one of the two that a control character has
abbrev pub is_control_at : List ℕ → ℕ → Bool
is_control_at bytes place =
    is_low_control (slice_index bytes place)
    || (slice_index bytes place == 194
    && (nat_lt (place + 1) (length bytes) && is_high_control (slice_index bytes (place + 1))))
    || (is_high_control (slice_index bytes place) && (nat_lt 0 place && slice_index bytes (place - 1) == 194))

-- control characters are shown as full stops, all other bytes as they are
abbrev pub shown_at : List ℕ → ℕ → ℕ
shown_at bytes place = if is_control_at bytes place then 46 else slice_index bytes place

-- bytes as they are shown
unfoldable pub shown : List ℕ → List ℕ
shown bytes = map (shown_at bytes) (range_with_len 0 (length bytes))

-- how many bytes are quoted: 120 at the most, up to the start of a character, which has four bytes at the most
abbrev pub cut_of : List ℕ → ℕ
cut_of bytes =
    if nat_le (length bytes) 120 then length bytes
    else if not (is_within (slice_index bytes 120)) then 120
    else if not (is_within (slice_index bytes 119)) then 119
    else if not (is_within (slice_index bytes 118)) then 118
    else 117

-- the bytes that are quoted, and two full stops where there are more
abbrev pub quoted : List ℕ → List ℕ
quoted bytes =
    shown (take (cut_of bytes) bytes) ++ (if nat_lt (cut_of bytes) (length bytes) then codes ".." else [])
