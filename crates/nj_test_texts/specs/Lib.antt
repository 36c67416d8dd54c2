-- the definitions to believe
pub mod TestTexts
-- what the contracts cite
pub mod Cited
