-- How the code meets the definitions beside this directory.
pub mod Additions
pub mod FileTexts
pub mod Folders
pub mod Keeping
