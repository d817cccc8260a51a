pub mod Main
pub mod Starts
pub mod Layouts
pub mod Kept
pub mod Held
pub mod Pages
