-- How the code meets the definitions beside this directory. Contracts of public calls do not need this
-- directory.
pub mod BlocksHeld
pub mod CyclesHeld
pub mod StringsHeld
