pub mod OfText
pub mod Typing
pub mod Alike
pub mod Outward
pub mod Halting
pub mod Kept
pub mod Entering
pub mod Formed
