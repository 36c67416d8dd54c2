-- the definitions to believe
pub mod FaultLines
pub mod Faults
pub mod Limits
pub mod Versions
-- what the contracts cite
pub mod Cited
