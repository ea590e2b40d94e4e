mod Orders
mod Sorted
mod Starts
mod Costs
