pub mod FullLemmas
pub mod GlobLemmas
pub mod LawLemmas
pub mod NameLemmas
pub mod PieceLemmas
mod Rows
