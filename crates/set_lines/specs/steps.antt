-- Definitions for private functions: no public contract cites them.
pub mod Parts
