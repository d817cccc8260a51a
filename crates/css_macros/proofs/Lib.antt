pub mod Numbering
pub mod Listing
pub mod MacroTables
pub mod Levels
pub mod Frames
pub mod Replacing
pub mod Definitions
