-- Definitions for private functions: no public contract cites them.
pub mod Bits
pub mod First
pub mod Spans
