-- the definitions to believe
pub mod Disk
-- what the contracts cite
pub mod Cited
