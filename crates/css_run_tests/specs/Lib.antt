pub mod Tasks
pub mod Yards
