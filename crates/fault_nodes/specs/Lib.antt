pub mod Parts
pub mod ReadParts
pub mod Nodes
pub mod steps
