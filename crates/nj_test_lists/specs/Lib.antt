-- the definitions to believe
pub mod Values
pub mod CTest
pub mod Meson
pub mod Faults
pub mod Laws
-- how the code does that
pub mod Inside
-- what the contracts cite
pub mod Cited
