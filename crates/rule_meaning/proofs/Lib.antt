mod Inversion
mod Determinism
mod StableOrders
pub mod Priorities
mod HookResults
mod Values
mod SameRuns
