-- What contracts of private functions cite; public ones cite none of it.
pub mod Answering
pub mod Errors
pub mod Telling
pub mod Rules
pub mod Alone
