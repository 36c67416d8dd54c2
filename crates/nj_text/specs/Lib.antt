-- the definitions to believe, in the order in which to read them
pub mod Bytes
pub mod Units
pub mod Lines
pub mod Words
pub mod Calls
pub mod Faults
pub mod Numbers
pub mod Laws
pub mod Paths
pub mod PathLaws
pub mod Quotes
pub mod QuoteLaws
-- how the code does that
pub mod Inside
-- what the contracts cite
pub mod Cited
