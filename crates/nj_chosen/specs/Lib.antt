-- the definitions to believe
pub mod TestPaths
pub mod Directories
pub mod Reasons
pub mod ChangedPaths
pub mod Chosen
pub mod Choices
pub mod Laws
-- how the code does that
pub mod Inside
-- what the contracts cite
pub mod Cited
