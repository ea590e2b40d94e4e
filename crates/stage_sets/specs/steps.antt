-- What contracts of private functions cite; public ones cite none of it.
pub mod Bases
pub mod Outcomes
pub mod Through
