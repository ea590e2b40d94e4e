pub mod Coming
pub mod Same
pub mod Runs
pub mod Addresses
pub mod AllSame
