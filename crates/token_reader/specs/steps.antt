pub mod Lookaheads
pub mod Reading
pub mod Parser
pub mod Laws
pub mod TokenLaws
pub mod Lawful
