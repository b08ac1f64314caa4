pub mod Gluing
pub mod Lexing
pub mod Sets
pub mod Skipping
pub mod Taking
