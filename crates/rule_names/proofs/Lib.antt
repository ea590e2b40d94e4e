mod Names
pub mod IndexLookup
pub mod Duplicates
pub mod Lists
pub mod Items
pub mod Additions
pub mod Bases
pub mod Tests
pub mod Tables
pub mod DecidableNames
