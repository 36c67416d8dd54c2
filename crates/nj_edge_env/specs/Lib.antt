-- the definitions to believe
pub mod Blocks
pub mod LateStrings
pub mod Laws
pub mod LateEdges
pub mod VariableCycles
pub mod ReferencesHeld
-- how the code does that
pub mod Inside
-- what the contracts cite
pub mod Cited
