pub mod LiveMappings
pub mod CtInfos
pub mod Nat
pub mod Fitting
pub mod Examples
