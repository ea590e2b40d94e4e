pub mod ReadAhead
pub mod CaptureInvariant
pub mod Buffered
