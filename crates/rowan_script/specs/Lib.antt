pub mod Outcome
pub mod Report
pub mod Requests
pub mod Rewriting
pub mod Run
pub mod Session
pub mod Trace
