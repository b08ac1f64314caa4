pub mod Path
pub mod Replacements
