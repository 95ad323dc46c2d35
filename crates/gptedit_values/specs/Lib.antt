pub mod Fields
pub mod Measures
pub mod Scripts
pub mod Steps
pub mod Words
