-- How the code meets the definitions beside this directory.
pub mod ByKind
pub mod FileSets
pub mod Handles
pub mod FilesNamed
pub mod UnorderedFound
pub mod LoggedFound
pub mod References
pub mod RolesHeld
pub mod Tokens
pub mod PlainBytes
pub mod Parts
pub mod Served
