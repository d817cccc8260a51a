pub mod InPlace
pub mod Records
pub mod Main
pub mod Waits
