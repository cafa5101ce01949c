pub mod PlainWords
pub mod Ticks
pub mod Words
