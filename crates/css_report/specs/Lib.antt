pub mod Endings
pub mod Images
pub mod Calls
pub mod Graphs
pub mod Depth
pub mod Stats
