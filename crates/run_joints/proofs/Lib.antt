pub mod Handlers
pub mod Joining
