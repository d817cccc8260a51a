pub mod Arguments
pub mod Frames
pub mod Longest
pub mod Reading
pub mod Shapes
pub mod Signs
pub mod Stacks
pub mod States
