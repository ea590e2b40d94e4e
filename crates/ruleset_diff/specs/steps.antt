-- What contracts of private functions cite; public ones cite none of it.
pub mod Pieces
pub mod Pairs
pub mod Stages
