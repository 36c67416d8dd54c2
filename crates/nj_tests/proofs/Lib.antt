pub mod PathLemmas
pub mod WordLemmas
pub mod Rows
