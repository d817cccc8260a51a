pub mod Written
pub mod Below
pub mod Said
pub mod LineReading
pub mod Drafts
pub mod Texts
