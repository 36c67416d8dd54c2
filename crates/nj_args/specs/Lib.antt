-- the definitions to believe
pub mod CommandLine
pub mod FaultLines
pub mod Fields
pub mod FirstFaults
pub mod Numbers
pub mod Requests
pub mod RunMarks
pub mod Tools
-- how the code does that
pub mod Inside
-- what the contracts cite
pub mod Cited
