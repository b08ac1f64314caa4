pub mod Counts
pub mod Runs
pub mod Splices
pub mod Written
