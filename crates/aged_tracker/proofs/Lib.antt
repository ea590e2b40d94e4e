pub mod Names
pub mod Lists
pub mod Order
pub mod Index
pub mod SlotLists
