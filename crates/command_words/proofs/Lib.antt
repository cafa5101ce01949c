pub mod TickLaws
mod WordsLaws
