pub mod Keys
pub mod Growing
pub mod Tables
pub mod Leaving
pub mod Shown
pub mod Found
