mod Balance
mod Caps
mod Completeness
mod Families
mod Found
mod Holding
pub mod Longest
mod Others
mod TwoReadings
mod Reached
mod ArgumentLists
mod Runs
mod Search
mod Signs
mod Soundness
mod Stacking
mod Types
mod Validity
