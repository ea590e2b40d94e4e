pub mod Lowered
pub mod Asked
pub mod steps
