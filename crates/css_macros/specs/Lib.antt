pub mod Macros
pub mod MacroTokens
pub mod Numbers
pub mod NumberedWords
pub mod ListedTokens
pub mod Entries
pub mod MacroTables
pub mod Expansions
