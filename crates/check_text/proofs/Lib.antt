pub mod CheckLaws
pub mod CourseLaws
pub mod MeteredLaws
pub mod OtherLaws
pub mod PeakLaws
pub mod SetLaws
pub mod StepLaws
