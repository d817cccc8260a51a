pub mod Options
pub mod Items
pub mod Reading
pub mod KeptWords
