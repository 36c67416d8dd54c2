pub mod FitLemmas
pub mod FormLemmas
pub mod LawLemmas
pub mod LetterLemmas
pub mod MatchLemmas
pub mod ReadingLemmas
mod Rows
