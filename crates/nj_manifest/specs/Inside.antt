-- How the code meets the definitions beside this directory. No contract of a public call needs these modules.
pub mod Heads
pub mod ParserContracts
