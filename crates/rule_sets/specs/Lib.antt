pub mod Ends
pub mod Interfaces
pub mod Parts
pub mod steps
