pub mod Bodies
pub mod Texts
pub mod Demand
pub mod Warnings
