pub mod Pictures
pub mod Parts
