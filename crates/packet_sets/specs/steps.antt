-- Definitions for private functions: no public contract cites them.
pub mod Comparisons
pub mod Nodes
pub mod Operations
pub mod Walking
