pub mod Spelled
pub mod Stands
pub mod Texts
