pub mod Selectors
pub mod Elements
pub mod steps
