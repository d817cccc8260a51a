pub mod Congruence
pub mod Kin
pub mod Narrowing
pub mod Operands
pub mod Ranges
pub mod Results
pub mod Values
pub mod Wrapping
