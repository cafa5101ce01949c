pub use Rattle.stream_syntax.specs.Cutting
pub use Rattle.stream_syntax.specs.BitFields
pub use Rattle.stream_syntax.specs.Pes
pub mod Units
