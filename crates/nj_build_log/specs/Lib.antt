-- the definitions to believe
pub mod Numbers
pub mod Logs
pub mod Murmur
pub mod Rapid
pub mod CommandHashes
pub mod Faults
-- the consequences of the definitions
pub mod Laws
-- how the code does that
pub mod Inside
-- what the contracts cite
pub mod Cited
