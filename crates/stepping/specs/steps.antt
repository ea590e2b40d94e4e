pub mod Steps
pub mod Interfaces
pub mod Confirming
pub mod Processing
