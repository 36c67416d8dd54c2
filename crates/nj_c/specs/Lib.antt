-- the definitions to believe
pub mod Statuses
pub mod SuppliedFiles
pub mod Asking
pub mod Buffers
pub mod Loading
pub mod FaultKinds
pub mod Pages
pub mod Runs
pub mod Targets
pub mod JoinedLogs
pub mod DiscoveredInputs
pub mod DirtyEdges
pub mod StaleEdges
pub mod MadeFrom
pub mod Paths
pub mod UndeclaredInputs
pub mod OneAnswer
-- how a session keeps its contents
pub mod Inside
-- what the contracts cite
pub mod Cited
