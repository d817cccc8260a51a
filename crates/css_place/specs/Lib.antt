pub mod Changes
pub mod Gaps
pub mod Holes
pub mod Places
