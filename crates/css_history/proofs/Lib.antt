pub mod Bools
pub mod Histories
pub mod Standings
pub mod Values
pub mod Facts
pub mod Numbers
