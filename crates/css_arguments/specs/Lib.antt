pub mod Lists
pub mod Arguments
pub mod Layouts
pub mod Rooms
