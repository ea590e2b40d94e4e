mod Running
mod Lists
mod Verdicts
mod Tables
mod WellTables
pub mod Sorting
mod TerminationLaws
mod Ranks
