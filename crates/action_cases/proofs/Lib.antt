pub mod JoinedLaws
pub mod BoundedLaws
pub mod CaseLaws
pub mod KeptLaws
