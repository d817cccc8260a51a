pub mod Addresses
pub mod Holding
pub mod Insertions
pub mod Others
pub mod Passing
pub mod Placing
