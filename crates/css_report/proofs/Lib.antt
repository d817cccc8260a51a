pub mod Depths
pub mod Texts
pub mod Edges
pub mod Lines
