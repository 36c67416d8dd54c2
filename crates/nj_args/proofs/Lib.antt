pub mod FirstFaultLaws
pub mod Given
mod MistakeRows
pub mod Mistakes
pub mod Numerals
pub mod Refusals
mod Rows
pub mod RunMarks
pub mod ViewMistakes
