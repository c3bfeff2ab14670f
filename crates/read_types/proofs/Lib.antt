pub mod Taking
pub mod Filled
pub mod Listing
pub mod Late
pub mod TypePaths
pub mod Chains
pub mod Gathering
