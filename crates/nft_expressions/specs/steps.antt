pub mod Reading
pub mod Braces
pub mod SelectorLaws
pub mod Laws
pub mod LookedThrough
