pub mod Found
pub mod OneWord
pub mod Orders
pub mod Printing
pub mod Spelled
