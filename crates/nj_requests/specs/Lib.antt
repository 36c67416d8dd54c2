-- the definitions to believe
pub mod Actions
