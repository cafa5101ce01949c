-- Bits and numbers, which laws of other crates take from here.
pub use Rattle.code_strings.proofs.Bits.{length-bits, length-bits_of, bits_of-append, bits-add, bits-mod, bits-join}
pub use Rattle.code_strings.proofs.Bits.{number_of-bits, IsBits, IsBits-bits_of, bits-number_of, drop-next}
pub use Rattle.code_strings.proofs.Bits.{field_spelled, field_past, Reads, field_reads, bits_of-drop_bytes}
pub use Rattle.code_strings.proofs.Bits.{field_is, field_within, field_there, byte_field}
