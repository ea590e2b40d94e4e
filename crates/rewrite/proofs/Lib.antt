pub mod Words
pub mod Checksums
pub mod Datagrams
pub mod Packets
pub mod Rewritten
