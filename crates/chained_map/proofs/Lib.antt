pub mod ChainLaws
pub mod GrowthLaws
pub mod LookupLaws
pub mod MapLaws
pub mod NodeLaws
