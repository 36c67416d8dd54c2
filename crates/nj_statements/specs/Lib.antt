-- the definitions to believe
pub mod EdgeList
pub mod BuildFaults
pub mod Built
pub mod Joining
pub mod Records
pub mod Logged
pub mod Laws
pub mod Answers
pub mod JoiningHeld
-- how the code does that
pub mod Inside
-- what the contracts cite
pub mod Cited
