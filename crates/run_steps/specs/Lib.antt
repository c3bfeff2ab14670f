pub mod Dispatch
pub mod Choosing
pub mod Trials
pub mod Running
pub mod Within
pub mod Starting
