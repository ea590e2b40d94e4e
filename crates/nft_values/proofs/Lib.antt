pub mod NameLaws
pub mod NumberLaws
pub mod SpanLaws
mod WordLaws
