pub mod ReachLines
pub mod Told
pub mod Reports
pub mod steps
