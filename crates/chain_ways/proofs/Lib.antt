mod Along
mod BaseChains
mod Costs
mod Events
mod Fitting
mod Lists
pub mod Nesting
pub mod Stages
mod Visits
