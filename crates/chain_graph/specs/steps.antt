-- Definitions for private contracts; no public contract cites them.
pub mod Targets
pub mod Search
pub mod Passes
