pub mod Log
pub mod Running
pub mod Seen
pub mod Tokens
pub mod Told
