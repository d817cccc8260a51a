pub mod Shape
pub mod Template
