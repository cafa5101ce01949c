pub mod FirstLaws
pub mod FollowingLaws
pub mod ReadLaws
pub mod StepLaws
