pub mod Modes
pub mod Events
pub mod Due
pub mod Groups
pub mod Stacks
pub mod States
pub mod Steps
