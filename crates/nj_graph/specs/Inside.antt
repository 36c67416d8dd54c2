-- How the code meets the definitions beside this directory. The contracts of public calls do not need these modules.
pub mod EdgesDiscovered
pub mod GraphHeld
pub mod InputSteps
pub mod JoiningContracts
pub mod LogSteps
pub mod OriginsHeld
pub mod Outcomes
pub mod PathsReached
pub mod ReaderContracts
pub mod UndeclaredFound
