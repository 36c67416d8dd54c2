pub mod HandleLemmas
pub mod UnorderedLemmas
pub mod LoggedLemmas
mod ServingLemmas
pub mod RepeatLemmas
pub mod FileLemmas
pub mod FileSetLemmas
pub mod ListLemmas
pub mod NameLemmas
mod QuotedWords
mod JoinedParts
pub mod MarkLemmas
pub mod KindLemmas
mod KindRows
mod PathLemmas
pub mod RoleLemmas
pub mod PlainLemmas
pub mod PartLemmas
pub mod ShellLemmas
mod ShellRows
mod ReadRows
