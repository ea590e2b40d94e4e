pub mod Tallying
pub mod Noting
pub mod Paging
pub mod NoteLines
pub mod TallyLines
pub mod Totals
pub mod Bounds
