pub mod Graphs
pub mod Jobs
pub mod Drafts
pub mod Cells
pub mod Posts
pub mod Boards
pub mod Lines
pub mod Runs
