pub mod Growing
pub mod Readings
