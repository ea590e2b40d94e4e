pub mod Bases
pub mod Coming
