pub mod TypedValues
pub mod Faults
pub mod steps
