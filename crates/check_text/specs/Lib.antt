pub mod CheckText
pub mod Checking
pub mod Courses
pub mod Others
