pub mod Tests
pub mod Joined
pub mod NameIndices
pub mod Entries
pub mod Clashes
