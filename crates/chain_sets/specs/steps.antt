-- What contracts of private functions cite; public ones cite none of it.
pub mod Merging
pub mod Rules
pub mod Outcomes
pub mod Looks
pub mod Turns
pub mod Walking
pub mod Nesting
