-- the definitions to believe
pub mod Globs
pub mod Patterns
pub mod Faults
pub mod Laws
-- how the code does that
pub mod Inside
-- what the contracts cite
pub mod Cited
