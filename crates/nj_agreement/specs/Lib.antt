-- the definitions to believe
pub mod Agreement
pub mod Graphs
pub mod Memory
pub mod Sources
pub mod Walks
