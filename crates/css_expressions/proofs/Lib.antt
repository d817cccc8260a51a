pub mod Rows
pub mod Trees
pub mod Arguments
pub mod Shown
pub mod FirstLiterals
pub mod Meanings
pub mod Lines
pub mod Counted
