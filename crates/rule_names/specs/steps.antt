-- Definitions for private contracts; no public contract cites them.
pub mod Index
pub mod Table
pub mod NameFaults
