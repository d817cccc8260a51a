pub mod Conversion
pub mod Operators
pub mod Types
pub mod Usual
