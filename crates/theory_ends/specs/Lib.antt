pub mod Lists
pub mod Names
pub mod Contexts
pub mod Ends
pub mod FarEnds
pub mod Fresh
pub mod Onward
