pub mod FillingLemmas
pub mod LawLemmas
pub mod HandleLemmas
pub mod NoticedLemmas
pub mod TableLemmas
