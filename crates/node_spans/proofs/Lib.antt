pub mod Lists
pub mod Levels
pub mod Newlines
pub mod Blocks
pub mod SetElements
pub mod AnonymousBraces
