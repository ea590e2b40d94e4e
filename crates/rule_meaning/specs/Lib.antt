pub mod Selectors
pub mod Sets
pub mod Matches
pub mod Statements
pub mod Runs
pub mod Hooks
pub mod Same
pub mod Laws
