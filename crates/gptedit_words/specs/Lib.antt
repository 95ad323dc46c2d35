pub mod Asks
pub mod Definitions
pub mod Line
pub mod Named
pub mod Refusals
pub mod Spelled
