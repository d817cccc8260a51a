pub mod Rams
pub mod Codes
pub mod Places
