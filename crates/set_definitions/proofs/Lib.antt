pub mod KnowLaws
mod WalkLaws
