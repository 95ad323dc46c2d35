pub mod Layouts
pub mod Scripts
