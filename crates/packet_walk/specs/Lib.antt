pub mod Closing
pub mod Taken
pub mod Told
pub mod ToldEnds
pub mod Walking
