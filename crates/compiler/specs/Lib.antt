pub mod Compiled
pub mod steps
