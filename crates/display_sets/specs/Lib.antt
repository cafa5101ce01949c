pub mod Counted
pub mod Filling
pub mod Gathered
pub mod Lent
pub mod Standing
pub mod Private
