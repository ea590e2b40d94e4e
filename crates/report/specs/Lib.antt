pub mod Report
pub mod Representing
pub mod steps
