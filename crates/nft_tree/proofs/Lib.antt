pub mod Chains
pub mod Entries
