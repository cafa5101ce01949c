pub mod Bits
pub mod Tokens
pub mod NarrowTokens
pub mod Strings
pub mod Told
pub mod Bytewise
pub mod Shown
