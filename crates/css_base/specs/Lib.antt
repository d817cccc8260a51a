pub mod Labels
pub mod Limits
pub mod Tokens
pub mod Places
