-- the definitions to believe
pub mod Tests
pub mod Words
pub mod WordLaws
-- how the code does that
pub mod Inside
-- what the contracts cite
pub mod Cited
