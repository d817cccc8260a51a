pub mod Names
pub mod Items
pub mod Saying
pub mod FirstItems
pub mod Pairs
pub mod Numbers
pub mod Ranges
pub mod Readings
