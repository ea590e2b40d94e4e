pub mod Examples
pub mod FieldLaws
pub mod Results
pub mod SetLaws
pub mod Splits
pub mod Walks
