mod Rows
pub mod Chains
pub mod Marking
pub mod Places
pub mod Ranks
pub mod Turns
pub mod Walking
pub mod UserLemmas
