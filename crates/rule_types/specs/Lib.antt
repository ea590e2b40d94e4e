pub mod Types
pub mod steps
