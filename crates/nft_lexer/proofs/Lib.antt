pub mod Numbers
pub mod Lexemes
pub mod Tokenizations
pub mod Standing
