pub mod Effects
pub mod steps
