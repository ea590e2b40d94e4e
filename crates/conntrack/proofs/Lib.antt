pub mod Names
pub mod Lists
pub mod Ids
pub mod Histories
pub mod Lookups
pub mod Packets
