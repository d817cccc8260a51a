pub mod Conversions
pub mod Casts
