-- the definitions to believe
pub mod States
pub mod Laws
pub mod Touches
pub mod Work
pub mod Missing
pub mod Needed
pub mod Numbered
-- how the code does that
pub mod Inside
-- what the contracts cite
pub mod Cited
