mod Names
mod Fits
