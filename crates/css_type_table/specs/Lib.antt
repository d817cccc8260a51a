pub mod Lists
pub mod Flat
