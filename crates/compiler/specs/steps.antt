pub mod Bases
pub mod Dropping
