pub mod ReturnLemmas
pub mod CyclicRuns
pub mod HeadlineLaws
pub mod JoinedRuns
mod KeptRuns
pub mod Reports
mod Rows
pub mod RunLemmas
