pub mod Showing
pub mod Slots
pub mod LastShown
pub mod Lent
pub mod Receiving
pub mod Taking
pub mod Asking
pub mod Private
