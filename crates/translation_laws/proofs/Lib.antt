mod Names
mod Chains
mod Paths
mod Beginnings
mod Answered
