pub mod Graph
pub mod Moves
