-- the definitions to believe
pub mod Facts
pub mod FileTimesFound
pub mod Judged
pub mod Laws
pub mod Stale
pub mod StaleLines
-- how the code does that
pub mod Inside
-- what the contracts cite
pub mod Cited
