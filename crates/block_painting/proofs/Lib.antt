pub mod Written
pub mod Heads
pub mod Depths
pub mod Tables
pub mod Strings
pub mod Walks
