use Rattle.std.proofs.Common.{◌≡◌, drop}
use Rattle.stream_syntax.specs.PixelCodes.{bits_of}
use Rattle.psi_tables.specs.Crc.{crc_behind, crc_of}
use Rattle.psi_tables.proofs.checksum.crc.Given as goal

-- the bits that are left make the CRC of all bytes
abbrev pub invariant-loop-byte : goal.invariant-loop-byte
invariant-loop-byte l = crc_of l.bytes ≡ crc_behind l.register (bits_of (drop l.byte-index l.bytes))
