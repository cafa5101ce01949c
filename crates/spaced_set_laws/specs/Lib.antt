pub mod Spaced
pub mod Apart
