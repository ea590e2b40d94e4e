pub mod View
pub mod steps
