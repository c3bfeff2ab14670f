pub mod Offsets
pub mod Faults
pub mod Verdicts
pub mod Starts
pub mod Tokens
pub mod TextOffsets
pub mod Refusals
