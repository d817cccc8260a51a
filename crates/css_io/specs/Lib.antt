pub mod Outside
pub mod Calls
pub mod Edge
pub mod MemShelf
pub mod MemSink
pub mod MemSource
pub mod Changes
