-- the definitions to believe
pub mod ByteHash
pub mod Files
pub mod NameHash
pub mod NameTables
pub mod NumberSets
pub mod PlainHash
-- how the code does that
pub mod Inside
-- what the contracts cite
pub mod Cited
