-- How the code meets the definitions beside this directory. Contracts of public calls do not need this
-- directory.
pub mod ChainsHeld
pub mod ChangesHeld
pub mod DirtyHeld
pub mod EdgesHeld
pub mod GraphHeld
pub mod JoiningHeld
pub mod MakersHeld
pub mod MarksHeld
pub mod NeedsSearched
pub mod RootsHeld
pub mod RowsHeld
pub mod SearchHeld
pub mod UsersHeld
