pub mod Sent
pub mod Late
pub mod Lost
pub mod Shown
pub mod Calls
pub mod OneStream
