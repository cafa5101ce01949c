pub mod ListLaws
pub mod PictureLaws
pub mod TickLaws
pub mod SoundLaws
