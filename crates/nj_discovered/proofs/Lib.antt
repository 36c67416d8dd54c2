pub mod FinderLemmas
pub mod DiscoveredRows
