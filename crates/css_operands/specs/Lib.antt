pub mod Shapes
pub mod Decisions
