pub mod Terminates
pub mod Ranking
