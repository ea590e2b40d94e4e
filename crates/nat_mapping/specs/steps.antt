-- Definitions for private functions: no public contract cites them.
pub mod Keys
pub mod KeyTests
pub mod Ports
pub mod Pooled
pub mod Consistent
pub mod Holders
