pub mod WordHash
