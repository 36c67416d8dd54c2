-- the definitions to believe
pub mod Edges
pub mod EdgeGraphs
pub mod Graph
pub mod Needs
pub mod Repeats
pub mod Changes
pub mod Dirty
pub mod Distances
pub mod Chains
pub mod Joining
pub mod MoreInputs
pub mod EdgeTables
-- how the code does that
pub mod Inside
-- what the contracts cite
pub mod Cited
