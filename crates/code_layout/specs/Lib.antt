pub mod DroppedRules
pub mod MergedRules
pub mod CodeLayout
pub mod Adding
pub mod steps
