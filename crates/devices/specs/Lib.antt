pub mod Counting
pub mod CountedCalls
pub mod steps
