pub mod Buckets
pub mod Nodes
pub mod Chains
pub mod Tables
