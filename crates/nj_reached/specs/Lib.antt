-- the definitions to believe
pub mod GraphChanges
pub mod Laws
-- how the code does that
pub mod Inside
-- what the contracts cite
pub mod Cited
