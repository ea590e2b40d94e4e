pub mod Paths
pub mod Findings
pub mod steps
