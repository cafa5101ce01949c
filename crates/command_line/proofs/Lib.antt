mod CommandLaws
mod WalkLaws
mod WordsLaws
