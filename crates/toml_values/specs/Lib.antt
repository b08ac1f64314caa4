pub mod Find
pub mod Keys
pub mod Shown
pub mod Strings
pub mod Tables
