pub mod Judged
pub mod Objects
pub mod Places
