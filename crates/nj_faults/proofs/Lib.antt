pub mod FaultLineRows
pub mod LimitStrings
pub mod VersionRows
pub mod Openings
