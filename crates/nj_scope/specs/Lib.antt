-- the definitions to believe
pub mod Faults
pub mod Late
pub mod Laws
pub mod Limits
pub mod Memory
pub mod Opening
pub mod Pools
pub mod ReadingList
pub mod Readings
pub mod Rules
pub mod Scopes
pub mod Sources
pub mod Declarations
pub mod RulesHeld
-- how the code does that
pub mod Inside
-- what the contracts cite
pub mod Cited
