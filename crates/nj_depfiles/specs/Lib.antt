-- the definitions to believe
pub mod Pieces
pub mod Depfiles
pub mod Faults
-- how the code does that
pub mod Inside
-- what the contracts cite
pub mod Cited
