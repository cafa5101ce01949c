pub mod Ending
pub mod Identity
pub mod Keeping
pub mod Names
pub mod Table
pub mod Words
