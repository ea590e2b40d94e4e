mod Adding
mod Apart
mod BoxBits
mod Compared
mod Covering
mod Stages
mod Written
