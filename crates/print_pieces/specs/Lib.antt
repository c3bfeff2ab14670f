pub mod Lines
pub mod RunLines
pub mod Pieces
pub mod Stages
pub mod Warned
pub mod Spotless
