pub mod First
pub mod Private
pub mod Reading
pub mod Sections
