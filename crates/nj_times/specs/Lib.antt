-- the definitions to believe
pub mod Times
pub mod Slowest
pub mod Critical
pub mod Laws
pub mod Reports
pub mod Rules
pub mod Dead
-- how the code does that
pub mod Inside
-- what the contracts cite
pub mod Cited
