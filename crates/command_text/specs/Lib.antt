pub mod Closing
pub mod Lines
pub mod PictureText
pub mod Putting
