mod Indenting
mod Sets
