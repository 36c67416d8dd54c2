-- How the code meets the definitions beside this directory. No contract of a public call needs these modules.
pub mod Heading
pub mod MarkScanning
pub mod Paths
pub mod Reserved
pub mod Saved
pub mod Standing
pub mod Tops
pub mod Views
