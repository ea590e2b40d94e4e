-- Definitions for private contracts; no public contract cites them.
pub mod Spots
