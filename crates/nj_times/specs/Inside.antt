-- How the code meets the definitions beside this directory. Contracts of public calls do not need these definitions.
pub mod CostsHeld
pub mod RulesHeld
