pub mod Bitmaps
pub mod Spans
pub mod CandidateLaws
