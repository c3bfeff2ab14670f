pub mod Rows
pub mod Ends
pub mod Searches
pub mod Slices
pub mod Shifts
pub mod Outsides
pub mod Marks
pub mod Decisions
