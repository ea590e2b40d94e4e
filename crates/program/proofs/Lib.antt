pub mod Chains
pub mod Looks
