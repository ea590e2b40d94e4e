pub mod Carried
pub mod Lookups
pub mod Paths
pub mod Confirmations
pub mod Next
pub mod Representing
pub mod steps
