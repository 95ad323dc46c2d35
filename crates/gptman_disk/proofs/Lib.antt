pub mod Counting
pub mod Events
pub mod Overlays
pub mod PassedOn
pub mod Ranges
pub mod Stops
