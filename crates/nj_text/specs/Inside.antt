-- How the code meets the definitions beside this directory. No contract of a public call needs these modules.
pub mod Chunks
pub mod Cleaning
pub mod Gathering
pub mod Meanings
pub mod PlainWords
pub mod Quoting
pub mod Runs
pub mod Scans
pub mod States
