mod Names
pub mod EachLaws
pub mod NodeLaws
pub mod CostLaws
pub mod DepthLaws
pub mod ReachLaws
pub mod CycleLaws
pub mod ReadLaws
pub mod StepLaws
pub mod OrderLaws
