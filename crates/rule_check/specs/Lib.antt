pub mod Limits
pub mod Chains
pub mod WellFormed
pub mod Checked
pub mod steps
pub mod Codes
