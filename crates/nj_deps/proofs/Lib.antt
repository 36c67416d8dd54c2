pub mod LawLemmas
mod LogRows
pub mod NameLemmas
pub mod NumberLemmas
pub mod OutputLemmas
pub mod RecordLemmas
pub mod TableLemmas
pub mod WordLemmas
