mod Numbers
mod LeastFaults
mod Stages
mod Deciding
mod Measures
