mod Amounts
pub mod BitLists
mod Extents
mod Measures
pub mod Steps
mod Tables
