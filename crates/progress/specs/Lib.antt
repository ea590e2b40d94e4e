pub mod Outputs
pub mod ProgressLine
