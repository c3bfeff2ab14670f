pub mod Offers
pub mod Nodes
pub mod Process
pub mod Turns
pub mod Spawns
pub mod Branches
pub mod Missing
