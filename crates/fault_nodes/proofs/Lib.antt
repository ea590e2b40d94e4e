mod PartLists
mod Ranges
mod Declared
mod Whole
mod Faultless
mod Spots
mod Places
mod Ends
