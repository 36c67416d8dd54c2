-- the definitions to believe
pub mod CommandLine
pub mod Fields
pub mod QuestionOf
pub mod Questions
pub mod ReadingLaws
-- how the code does that
pub mod Inside
-- what the contracts cite
pub mod Cited
