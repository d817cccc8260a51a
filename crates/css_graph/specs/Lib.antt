pub mod Tasks
pub mod Bundle
pub mod Nodes
pub mod Places
pub mod Agenda
pub mod Consumers
pub mod Graph
pub mod Chain
