-- the definitions to believe
pub mod Sinks
pub mod Texts
pub mod Lines
pub mod CommandStrings
pub mod Listings
pub mod Queries
pub mod RuleLists
pub mod Compdb
pub mod CompdbJson
pub mod JsonObjects
pub mod EdgeObjects
pub mod EdgeJson
pub mod Laws
pub mod MemorySinks
pub mod Errors
-- how the code does that
pub mod Inside
-- what the contracts cite
pub mod Cited
