-- What contracts of private functions cite; public ones cite none of it.
pub mod Bounds
pub mod Picking
