pub mod Machine
pub mod steps
