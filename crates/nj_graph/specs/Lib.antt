-- the definitions to believe
pub mod DepsLogs
pub mod Discovering
pub mod Errors
pub mod Graph
pub mod Handles
pub mod Joining
pub mod Laws
pub mod Loads
pub mod Origins
pub mod Parsed
pub mod Reading
pub mod ResponseFiles
pub mod Runs
pub mod Targets
pub mod Undeclared
-- how the code does that
pub mod Inside
-- definitions of lower crates that contracts cite
pub use Rattle.nj_text.specs.Paths
pub use Rattle.nj_text.specs.Words
pub use Rattle.nj_scope.specs.ReadingList
pub use Rattle.nj_scope.specs.Rules
pub use Rattle.nj_edges.specs.Changes
pub use Rattle.nj_edges.specs.Chains
pub use Rattle.nj_edges.specs.Dirty
pub use Rattle.nj_edges.specs.Distances
pub use Rattle.nj_edges.specs.Edges
pub use Rattle.nj_names.specs.Files
pub use Rattle.nj_statements.specs.Built
pub use Rattle.nj_statements.specs.EdgeList
-- what the contracts cite
pub mod Cited
