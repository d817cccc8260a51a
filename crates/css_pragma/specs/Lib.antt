pub mod Directives
pub mod Effects
pub mod Readings
pub mod Refusals
