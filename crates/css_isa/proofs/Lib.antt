pub mod Bytes
mod Quotients
pub mod Walk
pub mod Growth
pub mod Following
pub mod OneStep
pub mod Fitting
pub mod Onward
pub mod NeverStuck
pub mod Quiet
pub mod QuietRuns
