-- the definitions to believe
pub mod Bases
pub mod Keys
pub mod Pages
-- how the code does that
pub mod Inside
-- what the contracts cite
pub mod Cited
