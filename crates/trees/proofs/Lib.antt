pub mod Equal
pub mod Asked
pub mod Decide
