pub mod Reach
pub mod Sets
pub mod Takers
pub mod Nesting
pub mod steps
