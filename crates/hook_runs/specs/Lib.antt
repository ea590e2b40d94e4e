pub mod Stages
pub mod StageCode
pub mod steps
