pub mod AddLemmas
pub mod ChangeRows
pub mod ChainLemmas
pub mod ChainOrder
mod ChainRows
pub mod ChangeLaws
pub mod ChangeLemmas
pub mod CycleLemmas
pub mod DirtyLemmas
mod DirtyRows
pub mod EdgeLemmas
pub mod GraphLemmas
pub mod GraphUsers
pub mod JoinedLemmas
pub mod JoiningLemmas
pub mod ListLemmas
pub mod MakerLemmas
pub mod MarkLemmas
mod MoreInputRows
pub mod NamedLemmas
pub mod NeededLemmas
pub mod NeedsLemmas
mod NeededRows
pub mod Passing
pub mod RootLemmas
pub mod SearchLemmas
pub mod UserLemmas
