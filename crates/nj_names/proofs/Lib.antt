pub mod ListLemmas
pub mod NameLemmas
pub mod NumberLemmas
pub mod RoundLemmas
