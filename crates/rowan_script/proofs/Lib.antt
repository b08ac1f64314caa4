pub mod Calls
pub mod Exact
pub mod Places
pub mod RunLaws
pub mod Runs
pub mod Traces
