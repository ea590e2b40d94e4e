pub mod Ends
pub mod steps
