-- the definitions to believe
pub mod Answers
pub mod AuditKinds
pub mod Discovered
pub mod KeyPages
pub mod Runs
pub mod Sinks
-- what the contracts cite
pub mod Cited
