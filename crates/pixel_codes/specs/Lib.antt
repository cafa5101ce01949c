pub use Rattle.stream_syntax.specs.PixelCodes
pub use Rattle.stream_syntax.specs.PixelBlocks
pub mod Lists
pub mod Heads
pub mod Maps
pub mod Private
