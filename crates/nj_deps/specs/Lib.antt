-- the definitions to believe
pub mod LogRecords
pub mod Logs
pub mod Faults
pub mod Laws
-- how the code does that
pub mod Inside
-- what the contracts cite
pub mod Cited
