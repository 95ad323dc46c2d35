pub mod Changes
pub mod Planning
pub mod Reads
