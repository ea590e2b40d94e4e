pub mod SetLaws
pub mod FieldNumbers
pub mod SelectorLaws
pub mod BitLaws
pub mod BoxLaws
