pub mod Forms
pub mod Lines
pub mod OtherTypes
pub mod Types
