pub mod Commands
pub mod AlikeKinds
pub mod KeysOrder
pub mod Numerals
pub mod OldOption
pub mod QuestionSteps
pub mod ReadingLaws
pub mod Refused
mod Rows
pub mod Subjects
