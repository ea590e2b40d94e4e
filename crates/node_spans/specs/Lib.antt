pub mod Spans
pub mod steps
