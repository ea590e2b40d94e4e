pub mod AcceptedSets
pub mod AllChains
pub mod InStage
pub mod Parts
