pub mod Changed
pub mod Edited
pub mod Outcomes
pub mod Shaped
