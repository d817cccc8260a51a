pub mod Pieces
pub mod Meaning
pub mod Layout
pub mod Programs
pub mod Finds
pub mod Correct
pub mod Parts
pub mod Samples
