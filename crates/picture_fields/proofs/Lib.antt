pub mod Drawing
pub mod FieldLaws
pub mod SizeLaws
