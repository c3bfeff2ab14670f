pub mod Lists
pub mod Circles
pub mod Ends
pub mod Links
pub mod Halting
pub mod Decide
