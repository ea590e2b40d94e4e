pub mod Callers
pub mod ReadLaws
pub mod PathFindings
