-- Definitions for private functions: no public contract cites them.
pub mod Ports
pub mod Equal
pub mod WordBytes
pub mod Decoding
