mod Names
pub mod AddLaws
pub mod FirstLaws
mod CoverLaws
mod RunLaws
pub mod ShadowLaws
pub mod FlagLaws
pub mod MergedLaws
