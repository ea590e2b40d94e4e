pub mod Sets
pub mod steps
