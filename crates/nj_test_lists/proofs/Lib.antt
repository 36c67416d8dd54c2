pub mod LawLemmas
pub mod ListLemmas
pub mod MesonLemmas
pub mod PropertyLemmas
pub mod TestLemmas
pub mod ValueLemmas
mod Rows
