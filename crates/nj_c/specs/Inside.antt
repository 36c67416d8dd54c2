pub mod DiscoveredHeld
pub mod Keeps
pub mod LogsJoined
pub mod PagesHeld
pub mod Results
pub mod RunsHeld
pub mod StaleHeld
pub mod SuppliedHeld
