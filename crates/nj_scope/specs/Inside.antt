-- How the code meets the definitions beside this directory. No contract of a public call needs these modules.
pub mod KeysHeld
pub mod LateHeld
pub mod MemoryHeld
pub mod PoolOrDyndep
pub mod ScopesHeld
pub mod TableHeld
