pub mod Graph
pub mod Nodes
pub mod Order
pub mod Measures
pub mod steps
