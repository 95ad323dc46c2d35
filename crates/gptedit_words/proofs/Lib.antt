pub mod Given
mod Targets
mod Shapes
mod Named
mod Spelled
pub mod Extents
