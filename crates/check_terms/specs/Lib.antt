pub mod Findings
pub mod Next
pub mod Rules
pub mod Acting
pub mod Sends
pub mod Endings
pub mod Lists
pub mod Calls
