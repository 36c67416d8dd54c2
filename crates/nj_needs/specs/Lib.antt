-- the definitions to believe
pub mod Counts
pub mod Graphs
pub mod Growing
pub mod Laws
pub mod MarkFaults
pub mod MarkLaws
pub mod MarkTexts
pub mod Marks
pub mod Needs
pub mod Order
pub mod Pages
pub mod PageWalks
pub mod Resuming
pub mod Turns
pub mod Walks
-- how the code does that
pub mod Inside
-- what the contracts cite
pub mod Cited
