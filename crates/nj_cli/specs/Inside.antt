-- How the code meets the definitions beside this directory. The contracts of public calls do not need these modules.
pub mod RunSteps
