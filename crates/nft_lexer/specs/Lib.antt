pub mod Terminal
pub mod TokenViews
pub mod Lexing
pub mod steps
pub mod Codes
pub mod Places
