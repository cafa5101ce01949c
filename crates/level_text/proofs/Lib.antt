pub mod AnchorEndLaws
pub mod AnchorLaws
pub mod ClockLaws
pub mod FollowLaws
pub mod HeldLaws
pub mod LevelLaws
pub mod RateLaws
pub mod SlotLaws
