pub mod Rewritten
pub mod Endpoints
pub mod Examples
pub mod steps
