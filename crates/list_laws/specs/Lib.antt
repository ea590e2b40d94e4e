pub mod Tests
pub mod Options
pub mod Lists
pub mod Elements
pub mod Filters
pub mod Decisions
