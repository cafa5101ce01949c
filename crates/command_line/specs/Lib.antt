pub mod OneArgument
