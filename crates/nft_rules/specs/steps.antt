pub mod Reading
pub mod MatchLaws
pub mod Laws
