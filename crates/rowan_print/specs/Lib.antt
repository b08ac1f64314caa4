pub mod Opened
pub mod Printed
pub mod Spelled
pub mod Unfinished
