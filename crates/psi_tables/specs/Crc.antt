-- The CRC of tables (ISO/IEC 13818-1, annex A): a register of 32 stages that starts with all ones, and into which bits
-- are shifted, the highest of each byte first.
use Rattle.std.specs.Prelude.{ℕ, ◌-◌, ◌*◌, ◌/◌, ◌%◌, ◌^◌, ◌==◌, if◌then◌else◌, List, [], ◌∷◌, bit_xor}
use Rattle.stream_syntax.specs.PixelCodes.{bits_of}

-- the polynomial: x^32 + x^26 + x^23 + x^22 + x^16 + x^12 + x^11 + x^10 + x^8 + x^7 + x^5 + x^4 + x^2 + x + 1
abbrev pub polynomial : ℕ
polynomial = 0x04C11DB7

-- the register after one bit more: it is shifted by a stage, and takes the polynomial up where the bit that is shifted
-- out is not the one that comes
abbrev pub crc_step : ℕ → ℕ → ℕ
crc_step register bit =
    if register / 2 ^ 31 == bit then register * 2 % 2 ^ 32 else bit_xor (register * 2 % 2 ^ 32) polynomial

-- the register after these bits
unfoldable pub crc_behind : ℕ → List ℕ → ℕ
crc_behind register [] = register
crc_behind register (bit ∷ rest) = crc_behind (crc_step register bit) rest

-- the CRC of bytes
abbrev pub crc_of : List ℕ → ℕ
crc_of bytes = crc_behind (2 ^ 32 - 1) (bits_of bytes)
