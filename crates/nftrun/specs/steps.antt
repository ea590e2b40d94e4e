-- What contracts of private functions cite; public ones cite none of it.
pub mod Analyses
pub mod Comparisons
pub mod Promised
