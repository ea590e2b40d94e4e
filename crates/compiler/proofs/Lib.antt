pub mod Names
pub mod TableLaws
pub mod LeftLaws
pub mod StartLaws
pub mod OrderLaws
pub mod Simulation
