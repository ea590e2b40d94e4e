pub mod Lines
pub mod steps
