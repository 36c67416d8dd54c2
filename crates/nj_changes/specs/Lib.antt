-- the definitions to believe
pub mod FullPaths
pub mod Given
pub mod Ignored
pub mod Laws
pub mod Tables
-- what the contracts cite
pub mod Cited
