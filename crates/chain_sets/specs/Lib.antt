pub mod Errors
pub mod Ends
pub mod RuleSets
pub mod ChainSets
pub mod steps
