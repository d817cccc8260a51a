pub mod OutputBuffer
pub mod Ran
pub mod Plain
pub mod Playing
pub mod Events
pub mod Calls
pub mod Alone
pub mod Sides
