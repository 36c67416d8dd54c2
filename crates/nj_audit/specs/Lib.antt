-- the definitions to believe
pub mod Audit
pub mod Audits
pub mod Findings
pub mod Kinds
pub mod Laws
pub mod LoggedInputs
pub mod NamedPaths
pub mod ReadWords
pub mod Roles
pub mod Serving
pub mod ShellWords
pub mod UnorderedFiles
pub mod WordNames
-- how the code does that
pub mod Inside
-- what the contracts cite
pub mod Cited
