-- How the code meets the definitions beside this directory. The contracts of public calls do not need these modules.
pub mod EdgeSteps
pub mod RecordsFields
pub mod BuildingFields
pub mod JoiningSteps
pub mod JoiningFields
pub mod StatedEdge
