pub mod CheckLaws
pub mod ToldRightly
pub mod DoneTicks
