pub mod Memories
pub mod LiveRows
