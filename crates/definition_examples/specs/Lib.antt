pub mod GrammarExamples
pub mod SemanticsExamples
pub mod Fixtures
pub mod Expected
