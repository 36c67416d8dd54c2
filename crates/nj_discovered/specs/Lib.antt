-- the definitions to believe
pub mod Discovered
pub mod Discoveries
pub mod Faults
pub mod Times
-- how the code does that
pub mod Inside
-- what the contracts cite
pub mod Cited
