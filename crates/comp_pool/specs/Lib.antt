pub mod Pool
pub mod Places
pub mod Changes
pub mod Private
