pub mod Counts
pub mod Mapped
pub mod Taken
pub mod Untranslated
pub mod Visits
