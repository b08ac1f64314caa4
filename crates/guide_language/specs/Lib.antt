pub mod Casts
pub mod Kinds
pub mod Layout
pub mod NodeIn
pub mod Places
