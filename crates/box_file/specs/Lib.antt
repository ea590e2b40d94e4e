pub mod Text
pub mod Idle
pub mod Box
pub mod steps
pub mod Codes
