mod Names
mod Remaining
mod Entries
mod Widths
mod Pairwise
mod ByName
