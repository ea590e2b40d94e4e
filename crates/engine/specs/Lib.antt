pub mod Meaning
pub mod Words
pub mod Refusals
pub mod Judged
pub mod AfterFault
pub mod Fullest
pub mod Rerunning
pub mod steps
