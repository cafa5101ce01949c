pub mod Parts
pub mod Quotation
