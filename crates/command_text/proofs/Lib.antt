pub mod CloseLaws
pub mod PictureLaws
pub mod PutLaws
pub mod PutOutLaws
pub mod SentLaws
pub mod ToolLaws
