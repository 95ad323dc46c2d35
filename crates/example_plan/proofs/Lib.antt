mod Placed
mod Unused
