pub use Rattle.stream_syntax.specs.PixelCodes
pub mod Reading
pub mod Widths
pub mod Reached
