pub mod Laws
pub mod Reading
pub mod SetLaws
pub mod Views
pub mod Starts
