pub mod Answers
pub mod Numerals
pub mod Parted
pub mod Said
pub mod LineReading
pub mod Drafts
pub mod Texts
pub mod Written
