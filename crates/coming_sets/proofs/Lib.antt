pub mod Matching
pub mod Placing
