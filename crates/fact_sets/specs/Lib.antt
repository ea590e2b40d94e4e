pub mod Boxes
pub mod Cases
pub mod Facts
pub mod Tests
pub mod steps
