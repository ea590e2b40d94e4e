pub mod StepItems
pub mod Actions
pub mod Effects
pub mod Guarding
pub mod Concatenations
