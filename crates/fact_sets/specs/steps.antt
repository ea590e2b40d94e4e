-- What contracts of private functions cite; public ones cite none of it.
pub mod Interfaces
pub mod Readings
