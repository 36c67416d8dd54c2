-- How the code meets the definitions beside this directory. The contracts of public calls do not need these modules.
pub mod Blocks
pub mod Outputs
pub mod Collections
pub mod Commands
pub mod CompdbHeld
pub mod MemorySinksHeld
pub mod ObjectTexts
pub mod Pieces
pub mod QuotesHeld
pub mod Seen
pub mod Trees
