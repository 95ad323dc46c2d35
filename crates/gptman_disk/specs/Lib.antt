pub mod Bytes
pub mod Disk
pub mod Fate
pub mod Fault
pub mod Faulty
pub mod File
pub mod Memory
pub mod Ranges
