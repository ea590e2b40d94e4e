-- Definitions for private functions: no public contract cites them.
pub mod Reading
pub mod Tests
pub mod Best
pub mod Plant
