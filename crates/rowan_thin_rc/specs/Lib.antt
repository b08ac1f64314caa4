pub mod Counting
pub mod Ownership
pub mod Recursive
pub mod Shape
pub mod formers
