-- Definitions for proofs and private functions: no public contract cites them.
pub mod Table
pub mod SlotLists
