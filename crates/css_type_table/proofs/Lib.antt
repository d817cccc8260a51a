pub mod Layers
pub mod Sizes
pub mod Lists
pub mod Same
pub mod Growing
