pub mod Chains
pub mod UnsupportedWords
pub mod Rulesets
pub mod Sets
pub mod steps
