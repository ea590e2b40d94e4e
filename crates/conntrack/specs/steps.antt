-- Definitions for proofs: no public contract cites them.
pub mod Entries
