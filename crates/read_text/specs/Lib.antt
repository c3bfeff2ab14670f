pub mod Turns
pub mod Names
pub mod Processes
pub mod Scripts
pub mod Reading
