pub mod Matches
pub mod Rules
pub mod steps
