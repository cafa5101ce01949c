pub use Rattle.string_painting.specs.Codes
pub mod Regions
pub mod Calls
pub mod Private
