pub mod Left
pub mod Read
pub mod Refused
pub mod Safe
pub mod Written
