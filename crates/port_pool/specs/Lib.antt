pub mod Candidates
pub mod Taken
pub mod Examples
pub mod steps
