pub mod Printing
pub mod Replacing
pub mod Spelling
