pub mod DigitLemmas
pub mod TextLemmas
pub mod LineLemmas
pub mod EntryLemmas
pub mod LawLemmas
pub mod WrittenLemmas
pub mod LogRows
