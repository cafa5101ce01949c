pub mod ReadScript
