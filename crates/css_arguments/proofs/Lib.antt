pub mod EnoughRows
pub mod Lists
pub mod Measures
pub mod Looking
pub mod Live
pub mod CallWindows
pub mod Layouts
