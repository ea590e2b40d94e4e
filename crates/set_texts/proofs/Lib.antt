pub mod Indenting
