pub mod Codes
pub mod Links
pub mod Pcap
pub mod CaptureStates
pub mod ReadAhead
pub mod Sll2
pub mod Buffering
pub mod steps
