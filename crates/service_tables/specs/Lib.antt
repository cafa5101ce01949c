pub mod Clock
pub mod First
pub mod Reading
pub mod Tables
