pub mod Standing
pub mod FaultSpans
pub mod steps
