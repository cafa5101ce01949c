pub mod ListLaws
pub mod NumberLaws
pub mod PictureLaws
pub mod ProfileLaws
pub mod TransferSteps
