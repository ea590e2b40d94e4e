pub mod Tree
pub mod TreeViews
pub mod ValueTypes
pub mod ComparedTypes
pub mod Priorities
pub mod TableItems
