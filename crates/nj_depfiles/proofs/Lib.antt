pub mod CutLemmas
mod DepfileRows
pub mod ReadingLemmas
