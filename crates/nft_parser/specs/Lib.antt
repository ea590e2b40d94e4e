pub mod Spells
pub mod steps
pub mod Codes
pub mod Beginnings
