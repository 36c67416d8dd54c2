pub mod FactLemmas
pub mod TimeLemmas
pub mod ReasonLemmas
pub mod LineLemmas
pub mod LawLemmas
