pub mod Answered
pub mod Filling
pub mod OneSharing
pub mod PesLayout
pub mod ReaderTests
pub mod SharingLaws
pub mod Written
