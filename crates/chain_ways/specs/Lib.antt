pub mod Ways
pub mod BaseWays
pub mod Laws
pub mod Nesting
pub mod Exits
