pub mod Additions
pub mod Edits
pub mod Holding
