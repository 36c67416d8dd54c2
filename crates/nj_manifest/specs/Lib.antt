-- the definitions to believe
pub mod Contents
pub mod DyndepForms
pub mod DyndepLeftmost
pub mod DyndepParsers
pub mod DyndepVersions
pub mod Dyndeps
pub mod Expansion
pub mod Faults
pub mod Grammar
pub mod Laws
pub mod Leftmost
pub mod LineSteps
pub mod Openings
pub mod Parsers
pub mod Statements
-- how the code does that
pub mod Inside
-- what the contracts cite
pub mod Cited
