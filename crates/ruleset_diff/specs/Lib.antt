pub mod Differences
pub mod Nesting
pub mod steps
