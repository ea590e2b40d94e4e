pub mod Checks
pub mod Views
pub mod MapEntries
