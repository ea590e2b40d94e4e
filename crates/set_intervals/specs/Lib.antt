pub mod Pairs
pub mod steps
pub mod Codes
