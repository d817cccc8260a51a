pub mod Tree
pub mod Names
pub mod Trees
pub mod Texts
pub mod Numbers
