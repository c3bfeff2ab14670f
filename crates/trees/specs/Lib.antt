pub mod Both
pub mod Heads
pub mod Equal
pub mod Listed
pub mod Asked
pub mod Classes
