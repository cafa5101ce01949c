pub mod FrameLaws
pub mod WorkedBytes
