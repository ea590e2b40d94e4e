pub mod Words
pub mod Parse
pub mod Requested
