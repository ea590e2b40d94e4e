pub mod Repeats
pub mod steps
pub mod Grammar
pub mod Readers
