pub mod Answers
pub mod Tests
pub mod Links
pub mod Numbers
pub mod Circles
pub mod WellJoined
