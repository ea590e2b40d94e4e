pub mod Buffers
pub mod Steps
pub mod Endings
pub mod Headers
pub mod Coming
pub mod Reading
