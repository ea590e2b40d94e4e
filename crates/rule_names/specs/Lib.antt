pub mod Names
pub mod Indexed
pub mod steps
