-- How the code meets the definitions beside this directory. No contract of a public call needs these modules.
pub mod OutputsHeld
pub mod RecordsRead
