pub mod ConcatenationLaws
pub mod Tables
pub mod Guarded
